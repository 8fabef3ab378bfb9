-- Expansions whose parts are paid by the nodes that they visit.
use Rattle.std.proofs.Common.{◌≡◌, ℕ, ◌+◌, ◌-◌, ◌*◌, ◌≤◌, ◌<◌, Bool, true, false, if◌then◌else◌, nat_lt, List, [], ◌∷◌, ◌++◌, length, refl, ap, arith}
use Rattle.std.specs.List.{sum_by}
use Rattle.std.proofs.lemmas.Bool.Decides.{nat_tests}
use Rattle.std.proofs.lemmas.List.{map-append}
use Rattle.std.proofs.lemmas.List.Sums.{sum_by_push}
use Rattle.hc_tree.specs.declared.place.Place.{Place}
use Rattle.hc_tree.specs.declared.name.Ident.{Ident}
use Rattle.hc_tree.specs.declared.refusal.Rule.{Rule}
use Rattle.hc_tree.specs.declared.refusal.Detail.{Detail}
use Rattle.hc_tree.specs.declared.refusal.Refusal.{Refusal}
use Rattle.hc_core.specs.Typed.{kinds_of}
use Rattle.hc_core.specs.Parts.{kind_parts}
use Rattle.hc_core.specs.declared.object.Kind.{Kind}
use Rattle.hc_core.specs.declared.object.Object.{Object}
use Rattle.hc_width.specs.Judged.{Judged, Gives, Breaks}
use Rattle.hc_scope.specs.declared.state.State.{State}
use Rattle.hc_scope.specs.Expansion.{Outcome, Yields, Refuses, Expansion, and_then, ◌>>=◌, ◌>>◌, ◌<$>◌, pure, refuse, unless_broken, kinds, judged, each, visit, make}

-- the parts of the objects made so far
abbrev pub made_parts : State → ℕ
made_parts s = sum_by kind_parts (kinds_of s.objects)

-- What an expansion gives, with the objects that it makes, has at most 16 parts for each node that it visits and so many more,
-- and no node is visited behind the 1,000,000th.
pub record Counts {A : Type 0} (n : ℕ) (size : A → ℕ) (p : Expansion A) : Type 0 where
  pub few : (s : State) (a : A) (t : State) → p s ≡ Yields a t → size a + made_parts t + 16 * s.visited ≤ made_parts s + 16 * t.visited + n
  pub limited : (s : State) (a : A) (t : State) → p s ≡ Yields a t → s.visited ≤ 1000000 → t.visited ≤ 1000000

-- a value without parts
abbrev pub none : {A : Type 0} → A → ℕ
none a = 0

-- ---- one step after another

-- what an expansion yields that goes on with what another one yields
pub record Through {A B : Type 0} (first : Outcome A) (next : A → Expansion B) (b : B) (t : State) : Type 0 where
  pub value : A
  pub state : State
  pub first_is : first ≡ Yields value state
  pub next_is : next value state ≡ Yields b t

pub goes_through : {A B : Type 0} (first : Outcome A) (next : A → Expansion B) (b : B) (t : State) → and_then first next ≡ Yields b t → Through first next b t
goes_through (Yields a s) next b t is = record { value = a; state = s; first_is = refl; next_is = is }
goes_through (Refuses r) next b t is = absurd (cc)

-- a step that may have so many more parts than it pays, and what comes behind it with what is left
pub after_few : {A B : Type 0} {n : ℕ} (m : ℕ) {size : A → ℕ} {size' : B → ℕ} {p : Expansion A} {next : A → Expansion B} → Counts m size p → m ≤ n
    → ((a : A) → Counts (size a + (n - m)) size' (next a)) → Counts n size' (p >>= next)
after_few m {p = p} {next = next} first le rest = record {
  few = λ s b t is. (
      let th = goes_through (p s) next b t is in
      let f = first.few s th.value th.state th.first_is in
      let g = (rest th.value).few th.state b t th.next_is in
      omega arith);
  limited = λ s b t is within. (
      let th = goes_through (p s) next b t is in
      (rest th.value).limited th.state b t th.next_is (first.limited s th.value th.state th.first_is within));
}

-- a step that pays its parts
pub after : {A B : Type 0} {n : ℕ} {size : A → ℕ} {size' : B → ℕ} {p : Expansion A} {next : A → Expansion B} → Counts 0 size p
    → ((a : A) → Counts (size a + n) size' (next a)) → Counts n size' (p >>= next)
after {p = p} {next = next} first rest = record {
  few = λ s b t is. (
      let th = goes_through (p s) next b t is in
      let f = first.few s th.value th.state th.first_is in
      let g = (rest th.value).few th.state b t th.next_is in
      omega arith);
  limited = λ s b t is within. (
      let th = goes_through (p s) next b t is in
      (rest th.value).limited th.state b t th.next_is (first.limited s th.value th.state th.first_is within));
}

-- the same expansion with more left, or with a smaller size
pub with_more : {A : Type 0} {m n : ℕ} {size : A → ℕ} {p : Expansion A} → m ≤ n → Counts m size p → Counts n size p
with_more le c = record { few = λ s a t is. let f = c.few s a t is in omega arith; limited = c.limited }

pub smaller : {A : Type 0} {n : ℕ} {size size' : A → ℕ} {p : Expansion A} → ((a : A) → size' a ≤ size a) → Counts n size p → Counts n size' p
smaller le c = record { few = λ s a t is. let f = c.few s a t is in let l = le a in omega arith; limited = c.limited }

-- ---- single steps

pub gives : {A : Type 0} {n : ℕ} {size : A → ℕ} {a : A} → size a ≤ n → Counts n size (pure a)
gives {n = n} {size = size} {a = a} le = record {
  few = λ s b t is. (
      let value : a ≡ b = cc in
      let state : s ≡ t = cc in
      let same = ap size value in
      let visits = ap (λ (u : State). u.visited) state in
      let parts = ap made_parts state in
      omega arith);
  limited = λ s b t is within. (
      let state : s ≡ t = cc in
      let visits = ap (λ (u : State). u.visited) state in
      omega arith);
}

-- what is made of what an expansion gives
pub maps : {A B : Type 0} {n : ℕ} (m : ℕ) {size : A → ℕ} {size' : B → ℕ} {p : Expansion A} (f : A → B) → Counts m size p → m ≤ n
    → ((a : A) → size' (f a) ≤ size a + (n - m)) → Counts n size' (f <$> p)
maps m f c le small = after_few m c le (λ a. gives {a = f a} (small a))

pub refuses : {A : Type 0} {n : ℕ} {size : A → ℕ} {rule : Rule} {place : Place} {detail : Detail} → Counts n size (refuse rule place detail)
refuses = record { few = λ s a t is. absurd (cc); limited = λ s a t is within. absurd (cc) }

-- the kinds of the objects are looked up
pub knows : {A : Type 0} {n : ℕ} {size : A → ℕ} {next : List Kind → Expansion A} → ((ks : List Kind) → Counts n size (next ks)) → Counts n size (kinds >>= next)
knows rest = record {
  few = λ s a t is. (rest (kinds_of s.objects)).few s a t is;
  limited = λ s a t is within. (rest (kinds_of s.objects)).limited s a t is within;
}

-- a rule is judged
pub judges : {A : Type 0} {n : ℕ} {size : A → ℕ} (place : Place) (j : Judged A) → ((a : A) → j ≡ Gives a → size a ≤ n) → Counts n size (judged place j)
judges place (Gives a) le = gives (le a refl)
judges place (Breaks rule detail) le = refuses

pub unless_few : {n : ℕ} (broken : Bool) (rule : Rule) (place : Place) (detail : Detail) → Counts n none (unless_broken broken rule place detail)
unless_few true rule place detail = refuses
unless_few false rule place detail = gives (omega arith)

-- one of two expansions
pub either : {A : Type 0} {n : ℕ} {size : A → ℕ} (b : Bool) {p q : Expansion A} → Counts n size p → Counts n size q → Counts n size (if b then p else q)
either true c d = c
either false c d = d

-- ---- visits and objects

visited_by : (is_call few within : Bool) (r q : Refusal) (u : State) (a : Unit {0}) (t : State)
    → Path (Outcome (Unit {0})) (if is_call then (if few then (if within then Yields tt u else Refuses q) else Refuses r) else (if within then Yields tt u else Refuses q)) (Yields a t)
    → (u ≡ t) × (within ≡ true)
visited_by true true true r q u a t is = (cc, refl)
visited_by true true false r q u a t is = absurd (cc)
visited_by true false within r q u a t is = absurd (cc)
visited_by false few true r q u a t is = (cc, refl)
visited_by false few false r q u a t is = absurd (cc)

visit_is : (is_call : Bool) (calls : ℕ) (place : Place) (s : State) (a : Unit {0}) (t : State) → visit is_call calls place s ≡ Yields a t
    → (record { objects = s.objects; visited = s.visited + 1 } ≡ t) × (nat_lt s.visited 1000000 ≡ true)
unfolding visit
visit_is is_call calls place s a t is = visited_by is_call (nat_lt calls 200) (nat_lt s.visited 1000000) _ _ _ a t is

-- a visit pays 16 parts
pub visits : {A : Type 0} {size : A → ℕ} (is_call : Bool) (calls : ℕ) (place : Place) {p : Expansion A} → Counts 16 size p → Counts 0 size (visit is_call calls place >> p)
visits is_call calls place {p = p} c = record {
  few = λ s a t is. (
      let th = goes_through (visit is_call calls place s) (λ _. p) a t is in
      let v = visit_is is_call calls place s th.value th.state th.first_is in
      let f = c.few th.state a t th.next_is in
      let once = ap (λ (u : State). u.visited) v.0 in
      let parts = ap made_parts v.0 in
      omega arith);
  limited = λ s a t is within. (
      let th = goes_through (visit is_call calls place s) (λ _. p) a t is in
      let v = visit_is is_call calls place s th.value th.state th.first_is in
      let once = ap (λ (u : State). u.visited) v.0 in
      let below : s.visited < 1000000 = grind (arith, nat_tests) in
      c.limited th.state a t th.next_is (omega arith));
}

-- a node without parts
pub visits_only : (is_call : Bool) (calls : ℕ) (place : Place) → Counts 0 none (visit is_call calls place)
visits_only is_call calls place = record {
  few = λ s a t is. (
      let v = visit_is is_call calls place s a t is in
      let once = ap (λ (u : State). u.visited) v.0 in
      let parts = ap made_parts v.0 in
      omega arith);
  limited = λ s a t is within. (
      let v = visit_is is_call calls place s a t is in
      let once = ap (λ (u : State). u.visited) v.0 in
      let below : s.visited < 1000000 = grind (arith, nat_tests) in
      omega arith);
}

made_by : (within : Bool) (q : Refusal) (n : ℕ) (u : State) (k : ℕ) (t : State)
    → (if within then Yields n u else Refuses q) ≡ Yields k t → u ≡ t
made_by true q n u k t is = cc
made_by false q n u k t is = absurd (cc)

one_more_object : (objects : List Object) (o : Object) → sum_by kind_parts (kinds_of (objects ++ o ∷ [])) ≡ sum_by kind_parts (kinds_of objects) + kind_parts o.kind
one_more_object objects o =
    rw (map-append (λ (x : Object). x.kind) objects (o ∷ [])) (sum_by_push kind_parts (kinds_of objects) o.kind)

-- an object has its parts
pub makes : (x : Ident) (kind : Kind) → Counts (kind_parts kind) none (make x kind)
unfolding make
makes x kind = record {
  few = λ s k t is. (
      let same = made_by (nat_lt (length s.objects) 65535) _ _ _ k t is in
      let visits = ap (λ (u : State). u.visited) same in
      let parts = ap made_parts same in
      let more = one_more_object s.objects (record { name = x.name; place = x.place; kind = kind }) in
      omega arith);
  limited = λ s k t is within. (
      let same = made_by (nat_lt (length s.objects) 65535) _ _ _ k t is in
      let visits = ap (λ (u : State). u.visited) same in
      omega arith);
}

-- ---- lists

pub each_few : {A B : Type 0} {f : A → Expansion B} {size : B → ℕ} {sizes : List B → ℕ} → sizes [] ≤ 0 → ((b : B) (more : List B) → sizes (b ∷ more) ≤ size b + sizes more)
    → ((a : A) → Counts 0 size (f a)) → (list : List A) → Counts 0 sizes (each f list)
each_few least longer one [] = gives least
each_few {size = size} {sizes = sizes} least longer one (a ∷ rest) =
    after (one a) (λ b. after (each_few {size = size} {sizes = sizes} least longer one rest) (λ more. gives (let l = longer b more in omega arith)))
