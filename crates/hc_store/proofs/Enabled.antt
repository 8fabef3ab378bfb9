-- A write's net for each element: the net that tells that the index is the element's number, and the write's enable.
use Rattle.std.proofs.Common.{◌≡◌, ◌<◌, ℕ, suc, ◌+◌, ◌*◌, List, [], ◌∷◌, ◌++◌, length, take, map, get_or, ◌&&◌, refl, ap, sym, ◌∙◌, subst, arith}
use Rattle.std.specs.Prelude.{◌==◌}
use Rattle.std.specs.List.{range_with_len}
use Rattle.std.proofs.lemmas.List.{map_more, map_push, take_all, length_push}
use Rattle.std.proofs.lemmas.List.Elements.{All-nil, All-cons}
use Rattle.std.proofs.lemmas.Simd.{map-map}
use Rattle.hc_net.specs.Bits.{number}
use Rattle.hc_net.specs.Circuit.{Circuit, with_node}
use Rattle.hc_net.specs.Made.{Over, Makes}
use Rattle.hc_net.specs.MadeLemmas.{Makes-none, Makes-then, Makes-last, Makes-holds, Makes-gate, Over-self}
use Rattle.hc_net.specs.declared.node.Node.TheVariants.{Gate}
use Rattle.hc_net.specs.declared.gate.GateKind.TheVariants as kind
use Rattle.hc_bits.proofs.Parts.{Over-right, Makes-over}

-- the nets so far, of the first i terms
pub record Enabled (old new : Circuit) (enable : ℕ) (terms : List ℕ) (i : ℕ) (nets : List ℕ) : Type 0 where
  pub width : length nets ≡ i
  pub made : Makes i (enable ∷ terms) old new nets (λ v. map v nets ≡ map (λ k. v enable && v k) (take i terms))

pub Enabled-none : (c : Circuit) (enable : ℕ) (terms : List ℕ) → Enabled c c enable terms 0 []
Enabled-none c enable terms = record {
  width = refl;
  made = Makes-holds (Makes-none c (enable ∷ terms) [] (All-nil (λ k. k < length c.nodes)) (All-nil (Over c.nodes (enable ∷ terms)))) (omega arith) (λ v u. refl);
}

pub Enabled-more : (old mid new : Circuit) (enable : ℕ) (terms : List ℕ) (i net gate : ℕ) (nets : List ℕ) → Enabled old mid enable terms i nets → i < length terms
    → net ≡ get_or terms i net → (gate ≡ length mid.nodes) × (new ≡ with_node mid (Gate kind.And enable net)) → Enabled old new enable terms (i + 1) (nets ++ gate ∷ [])
Enabled-more old mid new enable terms i net gate nets so within is added =
    let args = enable ∷ terms in
    let left : Over mid.nodes args enable = Over-self args 0 0 (omega arith) in
    let right : Over mid.nodes args net = subst (Over mid.nodes args) (sym is) (Over-self args (suc i) net (omega arith)) in
    let one = Makes-gate args mid new kind.And enable net gate added.0 added.1 (left, right) in
    record {
      width = length_push nets gate ∙ ap (λ k. k + 1) so.width;
      made = Makes-holds (Makes-then so.made one (Over-self args)) (omega arith) (λ v both.
          map_push v nets gate ∙ ap (λ l. l ++ v gate ∷ []) both.0
          ∙ ap (λ b. map (λ k. v enable && v k) (take i terms) ++ b ∷ []) (both.1 ∙ ap (λ k. v enable && v k) is)
          ∙ sym (map_more (λ k. v enable && v k) terms i net within));
    }

pub Enabled-done : (old new : Circuit) (enable : ℕ) (terms : List ℕ) (i : ℕ) (nets : List ℕ) → Enabled old new enable terms i nets → i ≡ length terms
    → Makes (length terms) (enable ∷ terms) old new nets (λ v. map v nets ≡ map (λ k. v enable && v k) terms)
Enabled-done old new enable terms i nets so is =
    Makes-holds so.made (omega arith) (λ v bits. bits ∙ ap (λ (l : List ℕ). map (λ k. v enable && v k) l) (take_all i terms (omega arith)))

-- by the terms of the index
pub enabled_terms : (enable n : ℕ) (index terms slice z : List ℕ) (old mid new : Circuit) → length terms ≡ n → slice ≡ terms
    → Makes (n * length index + length index) index old mid terms (λ v. map v terms ≡ map (λ j. number (map v index) == j) (range_with_len 0 n))
    → Makes (length slice) (enable ∷ slice) mid new z (λ v. map v z ≡ map (λ k. v enable && v k) slice)
    → Makes (n * length index + length index + n) (enable ∷ index) old new z (λ v. map v z ≡ map (λ j. v enable && (number (map v index) == j)) (range_with_len 0 n))
enabled_terms enable n index terms slice z old mid new width same decoded enabled =
    let args = enable ∷ index in
    let first : Makes (n * length index + length index) args old mid terms (λ v. map v terms ≡ map (λ j. number (map v index) == j) (range_with_len 0 n)) =
    Makes-over decoded (Over-right (enable ∷ []) index) in
    let second = subst (λ (l : List ℕ). Makes (length l) (enable ∷ l) mid new z (λ v. map v z ≡ map (λ k. v enable && v k) l)) same enabled in
    let own : Over mid.nodes args enable = Over-self args 0 0 (omega arith) in
    Makes-holds (Makes-last first second (All-cons (Over mid.nodes args) enable terms own first.reach)) (omega (arith, width))
    (λ v holds. holds.1 ∙ sym (map-map (λ b. v enable && b) v terms) ∙ ap (λ l. map (λ b. v enable && b) l) holds.0
    ∙ map-map (λ b. v enable && b) (λ j. number (map v index) == j) (range_with_len 0 n))
