-- Places taken as one.
use Rattle.std.proofs.Common.{◌≡◌, ℕ, zero, suc, ◌-◌, ◌*◌, ◌<◌, ◌≤◌, Bool, true, false, List, [], ◌∷◌, ◌++◌, length, map, take, drop, get_or, refl, ap, sym, subst, ◌∙◌, arith}
use Rattle.std.specs.Prelude.{All, ◌&&◌, ◌||◌}
use Rattle.std.proofs.lemmas.List.{length-take, length-drop, take-map, drop-map}
use Rattle.std.proofs.lemmas.List.Elements.{All-append, All-take, All-drop}
use Rattle.hc_net.specs.Circuit.{Circuit}
use Rattle.hc_net.specs.Made.{Over, Makes}
use Rattle.hc_net.specs.MadeLemmas.{Makes-none, Makes-then, Makes-last, Makes-holds, Makes-as, Over-left}
use Rattle.hc_bits.specs.Carry.{carry_out, carries, last_of}
use Rattle.hc_bits.proofs.Parts.{All-one, All-two, All-three, Over-at, Over-right, Makes-wider}

-- two places in a row are one place
pub carry_out-twice : (g p h q c : Bool) → carry_out h q (carry_out g p c) ≡ carry_out (carry_out h q g) (q && p) c
carry_out-twice g p true q c = refl
carry_out-twice g p false true c = refl
carry_out-twice g p false false c = refl

-- the carry out of places that are cut in two parts
last_of-parts : (h : ℕ) (c : Bool) (gs : List Bool) → last_of c (carries c gs []) ≡ last_of (last_of c (carries c (take h gs) [])) (carries (last_of c (carries c (take h gs) [])) (drop h gs) [])
last_of-parts zero c gs = refl
last_of-parts (suc h) c [] = refl
last_of-parts (suc h) c (g ∷ gs) = last_of-parts h (g || c) gs

pub last_of-split : (h : ℕ) (c : Bool) (gs ps : List Bool)
    → last_of c (carries c gs ps) ≡ last_of (last_of c (carries c (take h gs) (take h ps))) (carries (last_of c (carries c (take h gs) (take h ps))) (drop h gs) (drop h ps))
last_of-split zero c gs ps = refl
last_of-split (suc h) c [] ps = refl
last_of-split (suc h) c (g ∷ gs) [] = last_of-parts h (g || c) gs
last_of-split (suc h) c (g ∷ gs) (p ∷ ps) = last_of-split h (carry_out g p c) gs ps

-- what the clause of a group says of the bits
abbrev pub IsGroup : (ℕ → Bool) → List ℕ → List ℕ → ℕ → ℕ → Type 0
IsGroup v g p generates passes = (c : Bool) → last_of c (carries c (map v g) (map v p)) ≡ carry_out (v generates) (v passes) c

split_at : (v : ℕ → Bool) (h : ℕ) (g p low_g low_p high_g high_p : List ℕ) (c m : Bool) → low_g ≡ take h g → low_p ≡ take h p → high_g ≡ drop h g → high_p ≡ drop h p
    → last_of c (carries c (map v low_g) (map v low_p)) ≡ m → last_of c (carries c (map v g) (map v p)) ≡ last_of m (carries m (map v high_g) (map v high_p))
split_at v h g p low_g low_p high_g high_p c m e f i j low =
    last_of-split h c (map v g) (map v p)
    ∙ ap (λ n. last_of n (carries n (drop h (map v g)) (drop h (map v p)))) (ap (λ l. last_of c (carries c l (take h (map v p)))) (take-map v h g ∙ sym (ap (map v) e)) ∙ ap (λ l. last_of c (carries c (map v low_g) l)) (take-map v h p ∙ sym (ap (map v) f)) ∙ low)
    ∙ ap (λ l. last_of m (carries m l (drop h (map v p)))) (drop-map v h g ∙ sym (ap (map v) i)) ∙ ap (λ l. last_of m (carries m (map v high_g) l)) (drop-map v h p ∙ sym (ap (map v) j))

one_group : (v : ℕ → Bool) (g p : ℕ) → IsGroup v (g ∷ []) (p ∷ []) g p
one_group v g p c = refl

pub group_one : (old : Circuit) (g p : List ℕ) → length g ≡ 1 → length p ≡ length g → All (λ k. k < length old.nodes) g → All (λ k. k < length old.nodes) p
    → Makes (3 * (length g - 1)) (g ++ p) old old (get_or g 0 0 ∷ get_or p 0 0 ∷ []) (λ v. IsGroup v g p (get_or g 0 0) (get_or p 0 0))
group_one old [] p one width there_g there_p = absurd (omega (arith, one))
group_one old (g ∷ h ∷ gs) p one width there_g there_p = absurd (omega (arith, one))
group_one old (g ∷ []) [] one width there_g there_p = absurd (omega (arith, width))
group_one old (g ∷ []) (p ∷ q ∷ ps) one width there_g there_p = absurd (omega (arith, width))
group_one old (g ∷ []) (p ∷ []) one width there_g there_p =
    let args = g ∷ p ∷ [] in
    Makes-holds (Makes-none old args args (All-two (λ k. k < length old.nodes) g p (there_g 0 0 (omega arith)) (there_p 0 0 (omega arith))) (All-two (Over old.nodes args) g p (Over-at args 0 (omega arith)) (Over-at args 1 (omega arith)))) (omega arith)
    (λ v h. one_group v g p)

pub top_one : (old : Circuit) (g p : List ℕ) → length g ≡ 1 → length p ≡ length g → All (λ k. k < length old.nodes) g
    → Makes (3 * length g) (g ++ p) old old (get_or g 0 0 ∷ []) (λ v. v (get_or g 0 0) ≡ last_of false (carries false (map v g) (map v p)))
top_one old [] p one width there_g = absurd (omega (arith, one))
top_one old (g ∷ h ∷ gs) p one width there_g = absurd (omega (arith, one))
top_one old (g ∷ []) [] one width there_g = absurd (omega (arith, width))
top_one old (g ∷ []) (p ∷ q ∷ ps) one width there_g = absurd (omega (arith, width))
top_one old (g ∷ []) (p ∷ []) one width there_g =
    let args = g ∷ p ∷ [] in
    Makes-holds (Makes-none old args (g ∷ []) (All-one (λ k. k < length old.nodes) g (there_g 0 0 (omega arith))) (All-one (Over old.nodes args) g (Over-at args 0 (omega arith)))) (omega arith)
    (λ v h. no_carry (v g) (v p))
  where
    no_carry : (g p : Bool) → g ≡ carry_out g p false
    no_carry true p = refl
    no_carry false true = refl
    no_carry false false = refl

pub group_made : (old m1 m2 m3 new : Circuit) (g p low_g low_p high_g high_p : List ℕ) (h lg lp hg hp tg tp : ℕ)
    → 1 ≤ h → h < length g → length p ≡ length g → low_g ≡ take h g → low_p ≡ take h p → high_g ≡ drop h g → high_p ≡ drop h p
    → Makes (3 * (length low_g - 1)) (low_g ++ low_p) old m1 (lg ∷ lp ∷ []) (λ v. IsGroup v low_g low_p lg lp)
    → Makes (3 * (length high_g - 1)) (high_g ++ high_p) m1 m2 (hg ∷ hp ∷ []) (λ v. IsGroup v high_g high_p hg hp)
    → Makes 2 (hg ∷ hp ∷ lg ∷ []) m2 m3 (tg ∷ []) (λ v. v tg ≡ carry_out (v hg) (v hp) (v lg))
    → Makes 1 (hp ∷ lp ∷ []) m3 new (tp ∷ []) (λ v. v tp ≡ (v hp && v lp))
    → Makes (3 * (length g - 1)) (g ++ p) old new (tg ∷ tp ∷ []) (λ v. IsGroup v g p tg tp)
group_made old m1 m2 m3 new g p low_g low_p high_g high_p h lg lp hg hp tg tp some inside width e f i j a b c d =
    let args = g ++ p in
    let wide = Makes-wider {wide = args} a (parts_over m1 g p low_g low_p (subst (λ (l : List ℕ). All (Over m1.nodes args) l) (sym e) (All-take (Over m1.nodes args) h g (Over-left g p))) (subst (λ (l : List ℕ). All (Over m1.nodes args) l) (sym f) (All-take (Over m1.nodes args) h p (Over-right g p)))) in
    let both = Makes-then wide b (parts_over m1 g p high_g high_p (subst (λ (l : List ℕ). All (Over m1.nodes args) l) (sym i) (All-drop (Over m1.nodes args) h g (Over-left g p))) (subst (λ (l : List ℕ). All (Over m1.nodes args) l) (sym j) (All-drop (Over m1.nodes args) h p (Over-right g p)))) in
    let at = Over m2.nodes args in
    let carry = Makes-then both c (All-three at hg hp lg (both.reach 2 0 (omega arith)) (both.reach 3 0 (omega arith)) (both.reach 0 0 (omega arith))) in
    let whole = Makes-then carry d (All-two (Over m3.nodes args) hp lp (carry.reach 3 0 (omega arith)) (carry.reach 1 0 (omega arith))) in
    let low : length low_g ≡ h = omega (arith, ap length e, length-take h g) in
    let high : length high_g ≡ length g - h = ap length i ∙ length-drop h g in
    Makes-as whole (omega arith)
    (All-two (λ k. k < length new.nodes) tg tp (whole.there 4 0 (omega arith)) (whole.there 5 0 (omega arith)))
    (All-two (Over new.nodes args) tg tp (whole.reach 4 0 (omega arith)) (whole.reach 5 0 (omega arith)))
    (λ v k in'. split_at v h g p low_g low_p high_g high_p in' _ e f i j (k.0.0.0 in') ∙ k.0.0.1 (carry_out (v lg) (v lp) in') ∙ carry_out-twice (v lg) (v lp) (v hg) (v hp) in'
    ∙ ap (λ t. carry_out t (v hp && v lp) in') (sym k.0.1) ∙ ap (λ t. carry_out (v tg) t in') (sym k.1))
  where
    parts_over : (m : Circuit) (g p l k : List ℕ) → All (Over m.nodes (g ++ p)) l → All (Over m.nodes (g ++ p)) k → All (Over m.nodes (g ++ p)) (l ++ k)
    parts_over m g p l k x y = All-append (Over m.nodes (g ++ p)) l k x y

pub top_made : (old m1 m2 new : Circuit) (g p low_g low_p high_g high_p : List ℕ) (h low hg hp top : ℕ)
    → 1 ≤ h → h < length g → length p ≡ length g → low_g ≡ take h g → low_p ≡ take h p → high_g ≡ drop h g → high_p ≡ drop h p
    → Makes (3 * length low_g) (low_g ++ low_p) old m1 (low ∷ []) (λ v. v low ≡ last_of false (carries false (map v low_g) (map v low_p)))
    → Makes (3 * (length high_g - 1)) (high_g ++ high_p) m1 m2 (hg ∷ hp ∷ []) (λ v. IsGroup v high_g high_p hg hp)
    → Makes 2 (hg ∷ hp ∷ low ∷ []) m2 new (top ∷ []) (λ v. v top ≡ carry_out (v hg) (v hp) (v low))
    → Makes (3 * length g) (g ++ p) old new (top ∷ []) (λ v. v top ≡ last_of false (carries false (map v g) (map v p)))
top_made old m1 m2 new g p low_g low_p high_g high_p h low hg hp top some inside width e f i j a b c =
    let args = g ++ p in
    let at1 = Over m1.nodes args in
    let low_over = All-append at1 low_g low_p (subst (λ (l : List ℕ). All (Over m1.nodes args) l) (sym e) (All-take at1 h g (Over-left g p))) (subst (λ (l : List ℕ). All (Over m1.nodes args) l) (sym f) (All-take at1 h p (Over-right g p))) in
    let high_over = All-append at1 high_g high_p (subst (λ (l : List ℕ). All (Over m1.nodes args) l) (sym i) (All-drop at1 h g (Over-left g p))) (subst (λ (l : List ℕ). All (Over m1.nodes args) l) (sym j) (All-drop at1 h p (Over-right g p))) in
    let both = Makes-then (Makes-wider {wide = args} a low_over) b high_over in
    let whole = Makes-last both c (All-three (Over m2.nodes args) hg hp low (both.reach 1 0 (omega arith)) (both.reach 2 0 (omega arith)) (both.reach 0 0 (omega arith))) in
    let low_width : length low_g ≡ h = omega (arith, ap length e, length-take h g) in
    let high_width : length high_g ≡ length g - h = ap length i ∙ length-drop h g in
    Makes-holds whole (omega arith)
    (λ v k. k.1 ∙ sym (split_at v h g p low_g low_p high_g high_p false (v low) e f i j (sym k.0.0) ∙ k.0.1 (v low)))
