-- The core of a tree: what it answers, and that it is sound.
use Rattle.std.proofs.Common.{◌≡◌, ◌≢◌, ◌<◌, ◌^◌, ℕ, List, [], ◌∷◌, length, Some, None, Result, Ok, Err, IfOk, AllPairs, arith, refl, sym, ap, ◌∙◌, subst}
use Rattle.std.specs.Prelude.{IfErr}
use Rattle.std.specs.List.{list_any}
use Rattle.std.proofs.lemmas.List.Elements.{All-same}
use Rattle.hc_tree.specs.declared.place.Place.{Place}
use Rattle.hc_tree.specs.declared.refusal.Refusal.{Refusal}
use Rattle.hc_tree.specs.declared.refusal.FrontErr.{FrontErr}
use Rattle.hc_tree.specs.declared.refusal.FrontErr.TheVariants.{Refused, NoMemory}
use Rattle.hc_tree.specs.declared.item.Item.{Item}
use Rattle.hc_tree.specs.declared.item.Tree.{Tree}
use Rattle.hc_tree.specs.declared.stmt.Block.{Block, out-Block}
use Rattle.hc_core.specs.Parts.{parts_of}
use Rattle.hc_core.specs.Program.{Statement, Seq, Statements, ◌⨾◌}
use Rattle.hc_core.specs.Read.{statement, statements}
use Rattle.hc_core.specs.Sound.{HasLabelBytes, IsTyped, AllTyped, IsSound, port_names}
use Rattle.hc_core.specs.Typed.{kinds_of}
use Rattle.hc_core.specs.declared.object.Core.{Core}
use Rattle.hc_core.specs.declared.object.Object.{Object}
use Rattle.hc_core.specs.declared.stmt.Stmt.{Stmt}
use Rattle.hc_expand.specs.Answered.{IfRefused, IsCore, IsRefusal}
use Rattle.hc_scope.specs.Expands.{Items, items, Program, main_of, whole, checked, is_clock, is_main, expansion, program_of, Expands, Stops}
use Rattle.hc_scope.specs.Expansion.{Outcome, Yields, Refuses, Expansion, and_then, made, ◌>>=◌, pure}
use Rattle.hc_expand.specs.Forms.{parts_read}
use Rattle.hc_declare.specs.Items.{pin_read, body_read, items_in, nothing_made, HasPorts, AnswersCore}
use Rattle.hc_scope.specs.Nodes.{nodes}
use Rattle.hc_scope.specs.Parts.{Context}
use Rattle.hc_scope.specs.Reading.{Answers, scope_in, scope_of, context_of}
use Rattle.hc_scope.specs.Scope.{Scope, opened, outside}
use Rattle.hc_scope.specs.Sound.{Grows}
use Rattle.hc_scope.specs.Statement.{in_order}
use Rattle.hc_scope.specs.Table.{Entries}
use Rattle.hc_declare.specs.declared.items.Roots.{Roots}
use Rattle.hc_scope.specs.declared.scope.Scope as code
use Rattle.hc_scope.specs.declared.scope.Scope.TheVariants as chain
use Rattle.hc_scope.specs.declared.state.State.{State}
use Rattle.hc_expand.proofs.Counted.{few_of_core}
use Rattle.hc_expand.proofs.OneCore.{one_core}

-- ---- the core of a body

in_order_is : (parts : List Stmt) → in_order (parts_read parts) ≡ statements parts
unfolding statements
in_order_is [] = refl
in_order_is (first ∷ rest) = ap (λ (more : Statements). statement first ⨾ more) (in_order_is rest)

-- the program with this body
abbrev ends : Block → List ℕ → List Statement → Expansion Program
ends body clock parts = made >>= (λ objects. pure (record { objects = objects; main = Seq (out-Block body).place (in_order parts); clock = clock }))

pub core_answers : (c : Context) (clock : List ℕ) (body : Block) (parts : List Stmt) (s t : State) (core : Core)
    → (nodes 2001).block c body s ≡ Yields (parts_read parts) t → core.objects ≡ t.objects
    → statement core.main ≡ Seq (out-Block body).place (statements parts) → core.clock ≡ clock → AnswersCore (main_of c (Some clock) (Some body) s) (Ok core)
core_answers c clock body parts s t core is objects main pin =
    let same : record { objects = t.objects; main = Seq (out-Block body).place (in_order (parts_read parts)); clock = clock } ≡ program_of core =
    rw (in_order_is parts, objects, main, pin) refl in
    (t, ap (λ o. and_then o (ends body clock)) is ∙ ap (λ (p : Program). Yields p t) same)

pub core_stops : (c : Context) (clock : List ℕ) (body : Block) (s t : State) (e : FrontErr)
    → Answers parts_read ((nodes 2001).block c body s) (Err e) t → AnswersCore (main_of c (Some clock) (Some body) s) (Err e)
core_stops c clock body s t (Refused r) is = ap (λ o. and_then o (ends body clock)) is
core_stops c clock body s t NoMemory is = tt

-- ---- the core of items

abbrev start : Items
start = record { context = record { scope = opened outside; calls = 0 }; clock = None; main = None }

abbrev rest_of : Items → Expansion Program
rest_of i = main_of i.context i.clock i.main

abbrev no_roots : Roots
no_roots = record { clock = None; main = None }

abbrev at_first : List Object → State
at_first objects = record { objects = objects; visited = 0 }

no_entries : (es : Entries) → length es ≡ 0 → es ≡ []
no_entries [] is = refl
no_entries (e ∷ es) is = absurd (omega arith)

starts : (all : List Item) (objects : List Object) (es : Entries) → objects ≡ [] → length es ≡ 0
    → items (nodes 2000) start all nothing_made ≡ items (nodes 2000) (items_in es chain.Outside no_roots) all (at_first objects)
unfolding scope_of
starts all objects es none no_names =
    sym (ap (λ (o : List Object). items (nodes 2000) (items_in es chain.Outside no_roots) all (at_first o)) none
    ∙ ap (λ (e : Entries). items (nodes 2000) (items_in e chain.Outside no_roots) all (at_first [])) (no_entries es no_names))

pub whole_core : (all : List Item) (objects : List Object) (es es' : Entries) (roots : Roots) (scope : code.Scope) (s : State) (r : Result Core FrontErr)
    → objects ≡ [] → length es ≡ 0 → items (nodes 2000) (items_in es chain.Outside no_roots) all (at_first objects) ≡ Yields (items_in es' chain.Outside roots) s
    → scope_of scope ≡ scope_in es' (scope_of chain.Outside) → AnswersCore (main_of (context_of scope 0) (pin_read roots.clock) (body_read roots.main) s) r
    → AnswersCore (whole all nothing_made) r
whole_core all objects es es' roots scope s r none no_names is same answers =
    subst (λ o. AnswersCore (and_then o rest_of) r) (sym (starts all objects es none no_names ∙ is))
    (subst (λ (c : Scope). AnswersCore (main_of (record { scope = c; calls = 0 }) (pin_read roots.clock) (body_read roots.main) s) r) same answers)

pub whole_stops : (all : List Item) (objects : List Object) (es : Entries) (read : Roots → Items) (e : FrontErr) (t : State) → objects ≡ [] → length es ≡ 0
    → Answers read (items (nodes 2000) (items_in es chain.Outside no_roots) all (at_first objects)) (Err e) t → AnswersCore (whole all nothing_made) (Err e)
whole_stops all objects es read (Refused r) t none no_names is = ap (λ o. and_then o rest_of) (starts all objects es none no_names ∙ is)
whole_stops all objects es read NoMemory t none no_names is = tt

-- ---- the core of a tree

same_program : (p q : Program) (s t : State) → Yields p s ≡ Yields q t → p ≡ q
same_program p q s t is = cc

abbrev AnswersItems : List Item → Result Core FrontErr → Type 0
AnswersItems all r = AnswersCore (checked all (list_any is_clock all) (list_any is_main all) nothing_made) r

same_refusal : (r q : Refusal) → Path (Outcome Program) (Refuses r) (Refuses q) → r ≡ q
same_refusal r q is = cc

pub answers_tree : (tree : Tree) (all : List Item) (r : Result Core FrontErr) → all ≡ tree.items → AnswersItems all r → AnswersCore (expansion tree) r
unfolding expansion
answers_tree tree all r same is = subst (λ (l : List Item). AnswersItems l r) same is

pub expands : (tree : Tree) (r : Result Core FrontErr) → AnswersCore (expansion tree) r → IfOk r (λ core. Expands tree core)
expands tree (Ok core) is = is
expands tree (Err e) is = tt

pub stops : (tree : Tree) (r : Result Core FrontErr) → AnswersCore (expansion tree) r → IfErr r (λ e. IfRefused e (Stops tree))
stops tree (Ok core) is = tt
stops tree (Err (Refused r)) is = is
stops tree (Err NoMemory) is = tt

pub accepts : (tree : Tree) (core : Core) (r : Result Core FrontErr) → AnswersCore (expansion tree) r → Expands tree core → IsCore core r
accepts tree core (Ok found) is other = one_core found core (same_program (program_of found) (program_of core) is.0 other.0 (sym is.1 ∙ other.1))
accepts tree core (Err (Refused r)) is other = let h = sym is ∙ other.1 in absurd (cc)
accepts tree core (Err NoMemory) is other = tt

pub refuses : (tree : Tree) (q : Refusal) (r : Result Core FrontErr) → AnswersCore (expansion tree) r → Stops tree q → IsRefusal q r
refuses tree q (Ok found) is other = let h = sym is.1 ∙ other in absurd (cc)
refuses tree q (Err (Refused r)) is other = same_refusal r q (sym is ∙ other)
refuses tree q (Err NoMemory) is other = tt

-- ---- soundness

pub sound_core : (core : Core) (old : List Object) (scope : Scope) (place : Place) (parts : Statements) → Grows old core.objects → HasPorts scope old
    → AllTyped (kinds_of core.objects) parts → statement core.main ≡ Seq place parts → HasLabelBytes core.clock → parts_of core < 2 ^ 32 → IsSound core
sound_core core old scope place parts grows ports typed main clock few = record {
  kinds = grows.sound;
  main = subst (IsTyped (kinds_of core.objects)) (sym main) typed;
  names_differ = subst (AllPairs ◌≢◌) (sym grows.ports) ports.differ;
  names = All-same HasLabelBytes (port_names core.objects) (port_names old) grows.ports ports.labels;
  clock = clock;
  few = few;
}

pub sound_tree : (tree : Tree) (r : Result Core FrontErr) → AnswersCore (expansion tree) r → IfOk r (λ core. parts_of core < 2 ^ 32 → IsSound core) → IfOk r IsSound
sound_tree tree (Ok core) is sound = sound (few_of_core tree core is)
sound_tree tree (Err e) is sound = tt
