-- One row of a product: each bit of a number and one bit of the multiplier.
use Rattle.std.proofs.Common.{◌≡◌, ◌<◌, ℕ, ◌+◌, List, [], ◌∷◌, ◌++◌, length, take, map, get_or, ◌&&◌, if◌then◌else◌, refl, ap, sym, ◌∙◌, subst, arith}
use Rattle.std.specs.Prelude.{All}
use Rattle.std.proofs.lemmas.List.{map_more, map_push, take_all, length_push, drop_more, drop_all}
use Rattle.std.proofs.lemmas.List.Elements.{All-nil}
use Rattle.hc_net.specs.Circuit.{Circuit, with_node}
use Rattle.hc_net.specs.Made.{Over, Makes}
use Rattle.hc_net.specs.MadeLemmas.{Makes-none, Makes-then, Makes-holds, Makes-gate, Over-self, Over-left}
use Rattle.hc_net.specs.declared.node.Node.TheVariants.{Gate}
use Rattle.hc_net.specs.declared.gate.GateKind.TheVariants as kind
use Rattle.hc_muldiv.specs.Product.{MakesProduct}
use Rattle.hc_muldiv.specs.Value.{value}
use Rattle.hc_muldiv.proofs.Circuits.{Over-right}
use Rattle.hc_muldiv.proofs.Products.{product_by_bit, row_bits_one}
use Rattle.hc_muldiv.proofs.Values.{value_and, value_fits}

-- the row so far, of the first i bits
pub record Row (old new : Circuit) (x : List ℕ) (bit i : ℕ) (nets : List ℕ) : Type 0 where
  pub width : length nets ≡ i
  pub made : Makes i (x ++ bit ∷ []) old new nets (λ v. map v nets ≡ map (λ k. v k && v bit) (take i x))

pub Row-none : (c : Circuit) (x : List ℕ) (bit : ℕ) → Row c c x bit 0 []
Row-none c x bit = record {
  width = refl;
  made = Makes-holds (Makes-none c (x ++ bit ∷ []) [] (All-nil (λ k. k < length c.nodes)) (All-nil (Over c.nodes (x ++ bit ∷ [])))) (omega arith) (λ v u. refl);
}

pub Row-more : (old mid new : Circuit) (x : List ℕ) (bit i net gate : ℕ) (nets : List ℕ) → Row old mid x bit i nets → i < length x
    → net ≡ get_or x i net
    → (gate ≡ length mid.nodes) × (new ≡ with_node mid (Gate kind.And net bit)) → Row old new x bit (i + 1) (nets ++ gate ∷ [])
Row-more old mid new x bit i net gate nets row within is added =
    let args = x ++ bit ∷ [] in
    let over : All (Over mid.nodes args) x = Over-left x (bit ∷ []) in
    let last : All (Over mid.nodes args) (bit ∷ []) = Over-right x (bit ∷ []) in
    let left : Over mid.nodes args net = subst (Over mid.nodes args) (sym is) (over i net within) in
    let one = Makes-gate args mid new kind.And net bit gate added.0 added.1 (left, last 0 0 (omega arith)) in
    record {
      width = length_push nets gate ∙ ap (λ k. k + 1) row.width;
      made = Makes-holds (Makes-then row.made one (Over-self args)) (omega arith) (λ v both.
          map_push v nets gate ∙ ap (λ l. l ++ v gate ∷ []) both.0
          ∙ ap (λ b. map (λ k. v k && v bit) (take i x) ++ b ∷ []) (both.1 ∙ ap (λ k. v k && v bit) is)
          ∙ sym (map_more (λ k. v k && v bit) x i net within));
    }

-- the whole row
pub Row-done : (old new : Circuit) (x : List ℕ) (bit i : ℕ) (nets : List ℕ) → Row old new x bit i nets → length x ≡ i
    → Makes (length x) (x ++ bit ∷ []) old new nets (λ v. value v nets ≡ (if v bit then value v x else 0))
Row-done old new x bit i nets row is = Makes-holds row.made (omega arith) (λ v bits.
    value_and v bit x nets (bits ∙ ap (λ (l : List ℕ). map (λ k. v k && v bit) l) (take_all i x (omega arith))))

-- ---- as a product by one bit

-- the only net of a list
single : (ys : List ℕ) (y : ℕ) → length ys ≡ 1 → y ≡ get_or ys 0 y → ys ≡ y ∷ []
single ys y width is = drop_more ys 0 y (omega arith) ∙ ap (λ l. get_or ys 0 y ∷ l) (drop_all 1 ys (omega arith)) ∙ ap (λ k. k ∷ []) (sym is)

pub product_of_row : (old new : Circuit) (x y z : List ℕ) (bit : ℕ) → length y ≡ 1 → bit ≡ get_or y 0 bit
    → Makes (length x) (x ++ bit ∷ []) old new z (λ v. value v z ≡ (if v bit then value v x else 0)) → MakesProduct x y old new z
product_of_row old new x y z bit one is made =
    subst (λ (l : List ℕ). MakesProduct x l old new z) (sym (single y bit one is))
    (Makes-holds made (omega (arith, row_bits_one (length x))) (λ v e. e ∙ product_by_bit (value v x) (length x) (v bit) (value_fits v x)))
