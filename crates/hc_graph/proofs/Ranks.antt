-- The numbers that a search leaves order the graph.
use Rattle.std.proofs.Common.{◌≡◌, ◌<◌, ℕ, zero, suc, List, [], ◌∷◌, Some, length, map, refl, ap, ◌∙◌, arith}
use Rattle.std.specs.Prelude.{slice_get}
use Rattle.std.proofs.lemmas.Option.{slice_get_within}
use Rattle.hc_graph.specs.declared.graph.Fork.{Fork}
use Rattle.hc_graph.specs.declared.search.Mark.{Mark}
use Rattle.hc_graph.specs.declared.search.Mark.TheVariants.{New, Open, Passed}
use Rattle.hc_graph.specs.Graph.{AreRanks}
use Rattle.hc_graph.specs.Search.{IsSearch}
use Rattle.hc_graph.specs.Sort.{rank_of}

get_map : (marks : List Mark) (a r : ℕ) → slice_get (map rank_of marks) a ≡ Some r → (m : Mark) × (slice_get marks a ≡ Some m) × (rank_of m ≡ r)
get_map [] a r e = absurd cc
get_map (m ∷ marks) zero r e = (m, refl, cc)
get_map (m ∷ marks) (suc a) r e = get_map marks a r e

length_ranks : (marks : List Mark) → length (map rank_of marks) ≡ length marks
length_ranks [] = refl
length_ranks (m ∷ marks) = ap suc (length_ranks marks)

-- in a search that is done each node is passed
passed_with : (graph : List Fork) (marks : List Mark) (passed : ℕ) → IsSearch graph marks [] passed → ((a : ℕ) → a < length graph → slice_get marks a ≡ Some New → ⊥)
    → (a r : ℕ) (m : Mark) → slice_get marks a ≡ Some m → rank_of m ≡ r → slice_get marks a ≡ Some (Passed r)
passed_with graph marks passed h none a r New is rank =
    let within = slice_get_within marks a New is in
    let size = h.size in
    absurd (none a (omega arith) is)
passed_with graph marks passed h none a r Open is rank = let there = (h.on_path a is).1 in absurd (omega arith)
passed_with graph marks passed h none a r (Passed q) is rank = is ∙ ap (λ x. Some (Passed x)) rank

pub ranked : (graph : List Fork) (marks : List Mark) (passed : ℕ) → IsSearch graph marks [] passed → ((a : ℕ) → a < length graph → slice_get marks a ≡ Some New → ⊥)
    → AreRanks graph (map rank_of marks)
ranked graph marks passed h none = record {
  size = length_ranks marks ∙ h.size;
  below = λ a r is.
      let m = get_map marks a r is in
      let low = h.below a r (passed_with graph marks passed h none a r m.0 m.1 m.2) in
      let count = h.count in
      omega arith;
  falls = λ a b r q leads is there.
      let m = get_map marks a r is in
      let n = get_map marks b q there in
      let a_is = passed_with graph marks passed h none a r m.0 m.1 m.2 in
      let b_is = passed_with graph marks passed h none b q n.0 n.1 n.2 in
      let within = slice_get_within marks b n.0 n.1 in
      let size = h.size in
      let old = h.falls a b r leads a_is (omega arith) in
      let old_is : slice_get marks b ≡ Some (Passed old.0) = old.1 in
      let same : old.0 ≡ q = cc in
      let low : old.0 < r = old.2 in
      omega arith;
}
