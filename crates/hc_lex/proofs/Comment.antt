-- A comment up to its end, byte by byte.
use Rattle.std.proofs.Common.{◌≡◌, ℕ, ◌+◌, ◌-◌, ◌<◌, false, ◌&&◌, List, [], ◌∷◌, length, take, drop, Option, Some, None, refl, ap, sym, ◌∙◌, arith}
use Rattle.std.specs.Prelude.{option_map, ◌==◌, slice_index}
use Rattle.std.proofs.lemmas.Grind.{common_steps}
use Rattle.std.proofs.lemmas.Bool.Decides.{nat_tests}
use Rattle.std.proofs.lemmas.List.{take_rest}
use Rattle.hc_lex.specs.Front.{closed}

-- so many bytes stand before
abbrev pub behind : ℕ → Option ℕ → Option ℕ
behind n o = option_map (λ m. m + n) o

pub behind-behind : (n : ℕ) (o : Option ℕ) → behind n (option_map (λ m. m + 1) o) ≡ behind (n + 1) o
behind-behind n None = refl
behind-behind n (Some m) = let e : m + 1 + n ≡ m + (n + 1) = omega arith in ap Some e

pub closed-here : (z : List ℕ) → 0 < length z → slice_index z 0 ≡ 42 → slice_index (drop 1 z) 0 ≡ 47 → closed z ≡ Some 2
closed-here [] h first second = absurd (omega arith)
closed-here (b ∷ z) h first second = grind (arith, nat_tests, common_steps)

pub closed-more : (z : List ℕ) → 0 < length z → (slice_index z 0 == 42 && slice_index (drop 1 z) 0 == 47) ≡ false → closed z ≡ option_map (λ n. n + 1) (closed (drop 1 z))
closed-more [] h differs = absurd (omega arith)
closed-more (b ∷ z) h differs = rw differs refl

pub closed-end : (z : List ℕ) → length z < 1 → closed z ≡ None
closed-end [] h = refl
closed-end (b ∷ z) h = absurd (omega arith)

pub found : (all z : List ℕ) (n : ℕ) → closed all ≡ behind n (closed z) → 0 < length z → slice_index z 0 ≡ 42 → slice_index (take (length z - 1) (drop 1 z)) 0 ≡ 47 → Some (n + 2) ≡ closed all
found all z n e h first second =
    let at : slice_index (drop 1 z) 0 ≡ 47 = ap (λ y. slice_index y 0) (sym (take_rest z 1)) ∙ second in
    let two : 2 + n ≡ n + 2 = omega arith in
    sym (e ∙ ap (behind n) (closed-here z h first at) ∙ ap Some two)

pub goes_on : (all z : List ℕ) (n : ℕ) → closed all ≡ behind n (closed z) → 0 < length z → (slice_index z 0 == 42 && slice_index (take (length z - 1) (drop 1 z)) 0 == 47) ≡ false
    → closed all ≡ behind (n + 1) (closed (take (length z - 1) (drop 1 z)))
goes_on all z n e h differs =
    let f : take (length z - 1) (drop 1 z) ≡ drop 1 z = take_rest z 1 in
    let more : closed z ≡ option_map (λ n. n + 1) (closed (drop 1 z)) = closed-more z h (ap (λ y. slice_index z 0 == 42 && slice_index y 0 == 47) (sym f) ∙ differs) in
    e ∙ ap (behind n) more ∙ behind-behind n (closed (drop 1 z)) ∙ ap (λ y. behind (n + 1) (closed y)) (sym f)

pub not_found : (all z : List ℕ) (n : ℕ) → closed all ≡ behind n (closed z) → length z < 1 → None ≡ closed all
not_found all z n e h = sym (e ∙ ap (behind n) (closed-end z h))
