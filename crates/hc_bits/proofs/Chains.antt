-- Chains of carries.
use Rattle.std.proofs.Common.{◌≡◌, ℕ, ◌+◌, ◌-◌, ◌*◌, ◌<◌, ◌≤◌, Bool, true, false, List, [], ◌∷◌, ◌++◌, length, map, take, get_or, refl, ap, sym, subst, ◌∙◌, arith}
use Rattle.std.specs.Prelude.{All, ◌&&◌, ◌||◌}
use Rattle.std.proofs.lemmas.List.{take_all, length-map, map_push, get_or-map, length_push, get_or_push}
use Rattle.hc_net.specs.Circuit.{Circuit}
use Rattle.hc_net.specs.Made.{Over, Makes}
use Rattle.hc_net.specs.MadeLemmas.{Makes-none, Makes-then, Makes-last, Makes-holds, Over-left}
use Rattle.hc_bits.specs.Carry.{carry_out, carries}
use Rattle.hc_bits.proofs.Carries.{carries-more, last_of-at}
use Rattle.hc_bits.proofs.Parts.{All-one, All-two, All-three, Over-at, Over-right, Makes-wider}

pub carry_out_made : (old mid new : Circuit) (g p c passed z : ℕ)
    → Makes 1 (p ∷ c ∷ []) old mid (passed ∷ []) (λ v. v passed ≡ (v p && v c))
    → Makes 1 (g ∷ passed ∷ []) mid new (z ∷ []) (λ v. v z ≡ (v g || v passed))
    → Makes 2 (g ∷ p ∷ c ∷ []) old new (z ∷ []) (λ v. v z ≡ carry_out (v g) (v p) (v c))
carry_out_made old mid new g p c passed z a b =
    let args = g ∷ p ∷ c ∷ [] in
    let wide = Makes-wider {wide = args} a (All-two (Over mid.nodes args) p c (Over-at args 1 (omega arith)) (Over-at args 2 (omega arith))) in
    let over = All-two (Over mid.nodes args) g passed (Over-at args 0 (omega arith)) (wide.reach 0 0 (omega arith)) in
    Makes-holds (Makes-last wide b over) (omega arith) (λ v h. h.1 ∙ ap (λ t. v g || t) h.0)

-- the carries out of the lowest i places, of which `carry` is the last
pub record CarriesMade (old new : Circuit) (g p c : List ℕ) (carry i : ℕ) : Type 0 where
  pub width : length c ≡ i
  pub last : carry ≡ get_or c (i - 1) 0
  pub makes : Makes (2 * i) (g ++ p) old new c (λ v. map v c ≡ carries false (take i (map v g)) (map v p))

pub carry_none : (g p : Bool) → carry_out g p false ≡ g
carry_none true p = refl
carry_none false true = refl
carry_none false false = refl

pub carries_first : (old : Circuit) (g p : List ℕ) → 1 ≤ length g → length g ≤ length p → All (λ k. k < length old.nodes) g
    → CarriesMade old old g p (get_or g 0 0 ∷ []) (get_or g 0 0) 1
carries_first old [] p some le there = absurd (omega (arith, some))
carries_first old (g ∷ gs) [] some le there = absurd (omega (arith, le))
carries_first old (g ∷ gs) (p ∷ ps) some le there = record {
  width = refl;
  last = refl;
  makes = Makes-holds (Makes-none old (g ∷ gs ++ p ∷ ps) (g ∷ []) (All-one (λ k. k < length old.nodes) g (there 0 0 (omega arith))) (All-one (Over old.nodes (g ∷ gs ++ p ∷ ps)) g (Over-at (g ∷ gs ++ p ∷ ps) 0 (omega arith)))) (omega arith)
      (λ v h. ap (λ c. c ∷ []) (sym (carry_none (v g) (v p))));
}

pub carries_more : (old mid new : Circuit) (g p c : List ℕ) (carry z i : ℕ) → CarriesMade old mid g p c carry i → 1 ≤ i → i < length g → length g ≤ length p
    → Makes 2 (get_or g i 0 ∷ get_or p i 0 ∷ carry ∷ []) mid new (z ∷ []) (λ v. v z ≡ carry_out (v (get_or g i 0)) (v (get_or p i 0)) (v carry))
    → CarriesMade old new g p (c ++ z ∷ []) z (i + 1)
carries_more old mid new g p c carry z i e some hg le step =
    let hp : i < length p = omega arith in
    let inside : i - 1 < length c = omega (arith, e.width) in
    let last = subst (Over mid.nodes (g ++ p)) (sym e.last) (e.makes.reach (i - 1) 0 inside) in
    let over = All-three (Over mid.nodes (g ++ p)) (get_or g i 0) (get_or p i 0) carry (Over-left g p i 0 hg) (Over-right g p i 0 hp) last in
    record {
      width = length_push c z ∙ ap (λ n. n + 1) e.width;
      last = sym (get_or_push c z 0 (i + 1 - 1) (omega (arith, e.width)));
      makes = Makes-holds (Makes-then e.makes step over) (omega arith) (λ v h. pushed v hp inside h.0 h.1);
    }
  where
    pushed : (v : ℕ → Bool) → i < length p → i - 1 < length c → map v c ≡ carries false (take i (map v g)) (map v p) → v z ≡ carry_out (v (get_or g i 0)) (v (get_or p i 0)) (v carry)
        → map v (c ++ z ∷ []) ≡ carries false (take (i + 1) (map v g)) (map v p)
    pushed v hp inside front here =
        let more = carries-more false i (map v g) (map v p) false (omega (arith, length-map g v)) (omega (arith, length-map p v)) in
        let at_g = get_or-map v g i 0 false hg in
        let at_p = get_or-map v p i 0 false hp in
        let at_c = get_or-map v c (i - 1) 0 false inside in
        let before = last_of-at false false (map v c) (i - 1) (omega (arith, length-map c v, e.width)) in
        let carry_is = e.last in
        let push = map_push v c z in
        cc

pub carries_done : (old new : Circuit) (g p c : List ℕ) (carry : ℕ) → CarriesMade old new g p c carry (length g)
    → Makes (2 * length g) (g ++ p) old new c (λ v. map v c ≡ carries false (map v g) (map v p))
carries_done old new g p c carry e =
    Makes-holds e.makes (omega arith) (λ v h. h ∙ ap (λ l. carries false l (map v p)) (take_all (length g) (map v g) (omega (arith, length-map g v))))
