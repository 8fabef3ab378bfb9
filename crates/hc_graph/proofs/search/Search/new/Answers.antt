use Rattle.std.proofs.Common.{◌≡◌, ℕ, zero, suc, ◌+◌, List, [], ◌∷◌, ◌++◌, Some, arith}
use Rattle.std.specs.Prelude.{slice_get}
use Rattle.std.proofs.lemmas.List.{length_push}
use Rattle.hc_graph.specs.declared.search.Mark.{Mark}
use Rattle.hc_graph.specs.declared.search.Mark.TheVariants.{New, Open, Passed}
use Rattle.hc_graph.specs.Search.{new_marks}
use Rattle.hc_graph.proofs.search.Search.new.Goals as goal

one_more : (marks : List Mark) → new_marks (marks ++ New ∷ []) ≡ new_marks marks + 1
one_more [] = omega arith
one_more (New ∷ marks) = let rest = one_more marks in omega arith
one_more (Open ∷ marks) = one_more marks
one_more (Passed r ∷ marks) = one_more marks

all_new : (marks : List Mark) → ((a : ℕ) (m : Mark) → slice_get marks a ≡ Some m → m ≡ New) → (a : ℕ) (m : Mark) → slice_get (marks ++ New ∷ []) a ≡ Some m → m ≡ New
all_new [] h zero m e = cc
all_new [] h (suc a) m e = absurd cc
all_new (x ∷ marks) h zero m e = h zero m e
all_new (x ∷ marks) h (suc a) m e = all_new marks (λ b n f. h (suc b) n f) a m e

pub loop-fork-preserved : goal.loop-fork-preserved
loop-fork-preserved c =
    let is = c.in_ok-push.ensures.ok in
    let more = one_more c.loop-fork.marks in
    let long = length_push c.loop-fork.marks New in
    rw is (let a = c.loop-fork.invariant.0 in omega arith, let b = c.loop-fork.invariant.1 in omega arith, all_new c.loop-fork.marks c.loop-fork.invariant.2)
