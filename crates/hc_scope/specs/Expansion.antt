-- What is made while a tree is expanded, and the steps that make it.
use Rattle.std.specs.Prelude.{ℕ, zero, suc, ◌+◌, Bool, if◌then◌else◌, nat_lt, List, [], ◌∷◌, ◌++◌, length}
use Rattle.hc_tree.specs.declared.place.Place.{Place}
use Rattle.hc_tree.specs.declared.name.Ident.{Ident}
use Rattle.hc_tree.specs.declared.refusal.Rule.{Rule}
use Rattle.hc_tree.specs.declared.refusal.Rule.TheVariants.{L4, L5, L6, L7}
use Rattle.hc_tree.specs.declared.refusal.Detail.{Detail}
use Rattle.hc_tree.specs.declared.refusal.Detail.TheVariants.{Nothing, Name}
use Rattle.hc_tree.specs.declared.refusal.Refusal.{Refusal}
use Rattle.hc_core.specs.declared.object.Kind.{Kind}
use Rattle.hc_core.specs.declared.object.Object.{Object}
use Rattle.hc_core.specs.Typed.{kinds_of}
use Rattle.hc_width.specs.Judged.{Judged, Gives, Breaks}
use Rattle.hc_scope.specs.declared.state.State.{State}

-- a value with what was made, or the first rule or limit that is broken
pub data Outcome (A : Type 0) : Type 0 where
  Yields : A → State → Outcome A
  Refuses : Refusal → Outcome A

abbrev pub Expansion : Type 0 → Type 0
Expansion A = State → Outcome A

abbrev pub and_then : {A B : Type 0} → Outcome A → (A → Expansion B) → Outcome B
and_then (Yields a s) next = next a s
and_then (Refuses r) next = Refuses r

infixl 10 ◌>>=◌
abbrev pub ◌>>=◌ : {A B : Type 0} → Expansion A → (A → Expansion B) → Expansion B
p >>= next = λ s. and_then (p s) next

infixl 10 ◌>>◌
abbrev pub ◌>>◌ : {A B : Type 0} → Expansion A → Expansion B → Expansion B
p >> next = p >>= (λ _. next)

abbrev pub pure : {A : Type 0} → A → Expansion A
pure a = λ s. Yields a s

infixr 11 ◌<$>◌
abbrev pub ◌<$>◌ : {A B : Type 0} → (A → B) → Expansion A → Expansion B
f <$> p = p >>= (λ x. pure (f x))

abbrev pub refuse : {A : Type 0} → Rule → Place → Detail → Expansion A
refuse rule place detail = λ s. Refuses (record { rule = rule; place = place; detail = detail })

-- a rule about a name, which the refusal names
abbrev pub refuse_name : {A : Type 0} → Rule → Ident → Expansion A
refuse_name rule x = refuse rule x.place (Name x.name)

-- a rule that holds, or is broken here
abbrev pub unless_broken : Bool → Rule → Place → Detail → Expansion (Unit {0})
unless_broken broken rule place detail = if broken then refuse rule place detail else pure tt

-- the objects made so far
abbrev pub made : Expansion (List Object)
made = λ s. Yields s.objects s

-- the kinds of the objects made so far
abbrev pub kinds : Expansion (List Kind)
kinds = λ s. Yields (kinds_of s.objects) s

-- what the width rules say, at a place
abbrev pub judged : {A : Type 0} → Place → Judged A → Expansion A
judged place (Gives a) = pure a
judged place (Breaks rule detail) = refuse rule place detail

abbrev pub each : {A B : Type 0} → (A → Expansion B) → List A → Expansion (List B)
each f [] = pure []
each f (a ∷ rest) = f a >>= (λ b. each f rest >>= (λ more. pure (b ∷ more)))

-- ---- limits

-- A node is visited: L4 where it is a macro call within 200 calls, L5 where it is the 1,000,001st node.
unfoldable pub visit : Bool → ℕ → Place → Expansion (Unit {0})
visit is_call calls place = λ s.
    if is_call then
    (if nat_lt calls 200 then counted s else Refuses (record { rule = L4; place = place; detail = Nothing }))
    else counted s
  where
    counted : State → Outcome (Unit {0})
    counted s = if nat_lt s.visited 1000000 then Yields tt (record { objects = s.objects; visited = s.visited + 1 })
        else Refuses (record { rule = L5; place = place; detail = Nothing })

-- more than 2,000 nodes are open around a node
abbrev pub too_deep : {A : Type 0} → Place → Expansion A
too_deep place = refuse L6 place Nothing

-- a node is visited around which so many more may be open
abbrev pub entered : ℕ → Bool → ℕ → Place → Expansion (Unit {0})
entered zero is_call calls place = visit is_call calls place >> too_deep place
entered (suc room) is_call calls place = visit is_call calls place

-- an object is made, and its number is the number of objects before it: L7 where it is the 65,536th
unfoldable pub make : Ident → Kind → Expansion ℕ
make x kind = λ s.
    if nat_lt (length s.objects) 65535
    then Yields (length s.objects) (record { objects = s.objects ++ record { name = x.name; place = x.place; kind = kind } ∷ []; visited = s.visited })
    else Refuses (record { rule = L7; place = x.place; detail = Nothing })
