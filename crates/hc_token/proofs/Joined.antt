-- Whether all bits of a list are set, by joining two at a time.
use Rattle.std.proofs.Common.{◌≡◌, ◌<◌, ◌≤◌, ℕ, ◌+◌, ◌-◌, ◌*◌, List, [], ◌∷◌, ◌++◌, length, map, get_or, drop, Bool, true, false, ◌&&◌, refl, ap, sym, ◌∙◌, subst, inl, inr, arith}
use Rattle.std.specs.Prelude.{All, ◌⊎◌}
use Rattle.std.proofs.lemmas.List.{map_push, get_or-map, get_or_append_left, get_or_push, length_push, length-map, drop_more, drop_all, drop-append-le}
use Rattle.std.proofs.lemmas.Bool.{cases_lt}
use Rattle.hc_net.specs.Circuit.{Circuit, node_at, constant_at}
use Rattle.hc_net.specs.Made.{Over, Adds, Makes}
use Rattle.hc_net.specs.MadeLemmas.{Over-self, Makes-none, Makes-then, Makes-holds, Makes-as}
use Rattle.hc_net.specs.declared.node.Node.{Node}
use Rattle.hc_token.specs.Circuits.{every}
use Rattle.hc_token.specs.Control.{IsNever}
use Rattle.hc_token.proofs.Parts.{All-one, All-two}
use Rattle.hc_token.proofs.Constants.{Adds-constant}

and_assoc : (a b c : Bool) → ((a && b) && c) ≡ (a && (b && c))
and_assoc true b c = refl
and_assoc false b c = refl

and_comm : (a b : Bool) → (a && b) ≡ (b && a)
and_comm true true = refl
and_comm true false = refl
and_comm false true = refl
and_comm false false = refl

every_push : (bits : List Bool) (b : Bool) → every (bits ++ b ∷ []) ≡ (b && every bits)
every_push [] b = refl
every_push (a ∷ bits) b = ap (λ c. a && c) (every_push bits b) ∙ and_comm a (b && every bits) ∙ and_assoc b (every bits) a ∙ ap (λ c. b && c) (and_comm (every bits) a)

-- two bits of the front go, and what they give together comes to the end
every_joined : (l : List Bool) (k : ℕ) (d z : Bool) → k + 1 < length l → z ≡ (get_or l k d && get_or l (k + 1) d)
    → every (drop (k + 2) (l ++ z ∷ [])) ≡ every (drop k l)
every_joined l k d z within is =
    let a = get_or l k d in
    let b = get_or l (k + 1) d in
    let rest = drop (k + 2) l in
    let next : k + 1 + 1 ≡ k + 2 = omega arith in
    let one : drop k l ≡ a ∷ drop (k + 1) l = drop_more l k d (omega arith) in
    let two : drop (k + 1) l ≡ b ∷ rest = drop_more l (k + 1) d within ∙ ap (λ n. b ∷ drop n l) next in
    let whole : every (drop k l) ≡ (a && (b && every rest)) = ap every one ∙ ap (λ m. a && every m) two in
    ap every (drop-append-le (k + 2) l (z ∷ []) (omega arith)) ∙ every_push rest z ∙ ap (λ c. c && every rest) is ∙ and_assoc a b (every rest) ∙ sym whole

-- ---- the tree

pub joined_none : (c : Circuit) (xs nets : List ℕ) → All (λ k. k < length c.nodes) xs → nets ≡ xs
    → Makes 0 xs c c nets (λ v. every (drop (2 * 0) (map v nets)) ≡ every (map v xs))
joined_none c xs nets there is =
    subst (λ (z : List ℕ). Makes 0 xs c c z (λ v. every (drop (2 * 0) (map v z)) ≡ every (map v xs))) (sym is)
    (Makes-holds (Makes-none c xs xs there (Over-self xs)) (omega arith) (λ v none. refl))

pub joined_more : (xs nets ns ms more : List ℕ) (i net : ℕ) (old mid new : Circuit)
    → 2 * i + 1 < length nets → ns ≡ nets → ms ≡ nets → more ≡ nets ++ net ∷ []
    → Makes i xs old mid nets (λ v. every (drop (2 * i) (map v nets)) ≡ every (map v xs))
    → Makes 1 (get_or ns (2 * i) 0 ∷ get_or ms (2 * i + 1) 0 ∷ []) mid new (net ∷ []) (λ v. v net ≡ (v (get_or ns (2 * i) 0) && v (get_or ms (2 * i + 1) 0)))
    → Makes (i + 1) xs old new more (λ v. every (drop (2 * (i + 1)) (map v more)) ≡ every (map v xs))
joined_more xs nets ns ms more i net old mid new within first second pushed made one =
    let gate = subst (λ (l : List ℕ). Makes 1 (get_or nets (2 * i) 0 ∷ get_or l (2 * i + 1) 0 ∷ []) mid new (net ∷ []) (λ v. v net ≡ (v (get_or nets (2 * i) 0) && v (get_or l (2 * i + 1) 0)))) second
    (subst (λ (l : List ℕ). Makes 1 (get_or l (2 * i) 0 ∷ get_or ms (2 * i + 1) 0 ∷ []) mid new (net ∷ []) (λ v. v net ≡ (v (get_or l (2 * i) 0) && v (get_or ms (2 * i + 1) 0)))) first one) in
    let over = All-two (Over mid.nodes xs) (get_or nets (2 * i) 0) (get_or nets (2 * i + 1) 0) (made.reach (2 * i) 0 (omega arith)) (made.reach (2 * i + 1) 0 within) in
    let next : 2 * (i + 1) ≡ 2 * i + 2 = omega arith in
    subst (λ (z : List ℕ). Makes (i + 1) xs old new z (λ v. every (drop (2 * (i + 1)) (map v z)) ≡ every (map v xs))) (sym pushed)
    (Makes-holds (Makes-then made gate over) (omega arith)
    (λ v both. ap (λ l. every (drop (2 * (i + 1)) l)) (map_push v nets net)
    ∙ ap (λ n. every (drop n (map v nets ++ v net ∷ []))) next
    ∙ every_joined (map v nets) (2 * i) (v 0) (v net) (omega (arith, within, length-map nets v))
    (both.1 ∙ ap (λ a. a && v (get_or nets (2 * i + 1) 0)) (sym (get_or-map v nets (2 * i) 0 (v 0) (omega arith)))
    ∙ ap (λ a. get_or (map v nets) (2 * i) (v 0) && a) (sym (get_or-map v nets (2 * i + 1) 0 (v 0) within)))
    ∙ both.0))

last_bit : (v : ℕ → Bool) (nets : List ℕ) (k : ℕ) → length nets ≡ k + 1 → every (drop k (map v nets)) ≡ v (get_or nets k 0)
last_bit v nets k size =
    let width = length-map nets v in
    let one : drop k (map v nets) ≡ get_or (map v nets) k (v 0) ∷ drop (k + 1) (map v nets) = drop_more (map v nets) k (v 0) (omega arith) in
    let none : drop (k + 1) (map v nets) ≡ [] = drop_all (k + 1) (map v nets) (omega arith) in
    ap every one ∙ ap (λ l. get_or (map v nets) k (v 0) && every l) none ∙ and_comm (get_or (map v nets) k (v 0)) true ∙ get_or-map v nets k 0 (v 0) (omega arith)

pub joined_all : (xs nets ns : List ℕ) (i k : ℕ) (old new : Circuit)
    → length nets ≡ length xs + i → i + 1 ≡ length xs → ns ≡ nets → k ≡ 2 * i
    → Makes i xs old new nets (λ v. every (drop (2 * i) (map v nets)) ≡ every (map v xs))
    → Makes (length xs - 1) xs old new (get_or ns k 0 ∷ []) (λ v. v (get_or ns k 0) ≡ every (map v xs))
joined_all xs nets ns i k old new size end same at made =
    let last = get_or nets (2 * i) 0 in
    let alone : get_or ns k 0 ≡ last = ap (λ l. get_or l k 0) same ∙ ap (λ n. get_or nets n 0) at in
    subst (λ (z : ℕ). Makes (length xs - 1) xs old new (z ∷ []) (λ v. v z ≡ every (map v xs))) (sym alone)
    (Makes-as made (omega arith)
    (All-one (λ k. k < length new.nodes) last (made.there (2 * i) 0 (omega arith)))
    (All-one (Over new.nodes xs) last (made.reach (2 * i) 0 (omega arith)))
    (λ v joined. sym (last_bit v nets (2 * i) (omega arith)) ∙ joined))

-- ---- a constant 0 in the tree

-- a constant 0 stands among the nets from this place on
pub record OneIsNever (nodes : List Node) (nets : List ℕ) (from : ℕ) : Type 0 where
  pub place : ℕ
  pub after : from ≤ place
  pub within : place < length nets
  pub never : IsNever nodes (get_or nets place 0)

pub never_none : (nodes : List Node) (xs nets : List ℕ) (k : ℕ) → nets ≡ xs → k < length xs → IsNever nodes (get_or xs k 0) → OneIsNever nodes nets (2 * 0)
never_none nodes xs nets k same within is = record {
  place = k;
  after = omega arith;
  within = omega (arith, within, ap length same);
  never = ap (λ (l : List ℕ). constant_at (node_at nodes (get_or l k 0))) same ∙ is;
}

-- the constant 0 is one of the two that are joined, and then they give one, or it stays
pub never_more : {m : ℕ} (nets ns ms more : List ℕ) (i net : ℕ) (mid new : Circuit) → 2 * i + 1 < length nets → ns ≡ nets → ms ≡ nets → more ≡ nets ++ net ∷ [] → Adds m mid new
    → (IsNever mid.nodes (get_or ns (2 * i) 0) ⊎ IsNever mid.nodes (get_or ms (2 * i + 1) 0) → IsNever new.nodes net)
    → OneIsNever mid.nodes nets (2 * i) → OneIsNever new.nodes more (2 * (i + 1))
never_more nets ns ms more i net mid new room first second pushed adds both one =
    let size : length more ≡ length nets + 1 = ap length pushed ∙ length_push nets net in
    elim (cases_lt one.place (2 * i + 2)) [
      | inl low ↦ record {
        place = length nets;
        after = omega arith;
        within = omega arith;
        never =
            ap (λ (l : List ℕ). constant_at (node_at new.nodes (get_or l (length nets) 0))) pushed
            ∙ ap (λ n. constant_at (node_at new.nodes n)) (get_or_push nets net 0 _ refl)
            ∙ both (elim (cases_lt one.place (2 * i + 1)) [
              | inl here ↦ inl (
                  let at : 2 * i ≡ one.place = let least = one.after in omega arith in
                  ap (λ (l : List ℕ). constant_at (node_at mid.nodes (get_or l (2 * i) 0))) first ∙ ap (λ n. constant_at (node_at mid.nodes (get_or nets n 0))) at ∙ one.never)
              | inr next ↦ inr (
                  let at : 2 * i + 1 ≡ one.place = omega arith in
                  ap (λ (l : List ℕ). constant_at (node_at mid.nodes (get_or l (2 * i + 1) 0))) second ∙ ap (λ n. constant_at (node_at mid.nodes (get_or nets n 0))) at ∙ one.never)
            ]);
      }
      | inr high ↦ record {
        place = one.place;
        after = omega arith;
        within = let within = one.within in omega arith;
        never =
            ap (λ (l : List ℕ). constant_at (node_at new.nodes (get_or l one.place 0))) pushed
            ∙ ap (λ n. constant_at (node_at new.nodes n)) (get_or_append_left nets (net ∷ []) 0 one.place one.within)
            ∙ Adds-constant (get_or nets one.place 0) _ adds one.never;
      }
    ]

-- at the end one net is left
pub never_all : (xs nets ns : List ℕ) (i k : ℕ) (nodes : List Node)
    → length nets ≡ length xs + i → i + 1 ≡ length xs → ns ≡ nets → k ≡ 2 * i
    → OneIsNever nodes nets (2 * i) → IsNever nodes (get_or ns k 0)
never_all xs nets ns i k nodes size end same at one =
    let last : k ≡ one.place = let least = one.after in let most = one.within in omega arith in
    ap (λ (l : List ℕ). constant_at (node_at nodes (get_or l k 0))) same ∙ ap (λ n. constant_at (node_at nodes (get_or nets n 0))) last ∙ one.never
