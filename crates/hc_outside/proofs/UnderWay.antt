-- A piece that is being written.
use Rattle.std.specs.Prelude.{◌≡◌, ◌++◌, ◌-◌, ℕ, List, [], length, take, drop, refl}
use Rattle.std.proofs.Common.{◌∙◌, ap, append_assoc, arith, length-drop}
use Rattle.std.proofs.lemmas.List.{take-append-drop, take_all}
use Rattle.hc_outside.specs.Sink.{SinkState, Wrote}
use Rattle.hc_outside.specs.SinkLemmas.{Wrote-none, Wrote-more}

-- all of the piece but this rest was written
pub record IsUnderWay (piece rest : List ℕ) (old new : SinkState) : Type 0 where
  pub front : List ℕ
  pub parts : front ++ rest ≡ piece
  pub wrote : Wrote front old new

pub IsUnderWay-start : (piece : List ℕ) (s : SinkState) → IsUnderWay piece piece s s
IsUnderWay-start piece s = record { front = []; parts = refl; wrote = Wrote-none s }

pub IsUnderWay-more : {piece rest : List ℕ} {x y z : SinkState} (n : ℕ) → IsUnderWay piece rest x y → Wrote (take n rest) y z → IsUnderWay piece (drop n rest) x z
IsUnderWay-more {rest = rest} n h w = record {
  front = h.front ++ take n rest;
  parts = append_assoc h.front (take n rest) (drop n rest) ∙ ap (λ t. h.front ++ t) (take-append-drop n rest) ∙ h.parts;
  wrote = Wrote-more h.wrote w;
}

-- the same in the form that a slice from n on has
pub IsUnderWay-sliced : {piece rest : List ℕ} {x y z : SinkState} (n : ℕ) → IsUnderWay piece rest x y → Wrote (take n rest) y z → IsUnderWay piece (take (length rest - n) (drop n rest)) x z
IsUnderWay-sliced {piece} {rest} {x} {y} {z} n h w =
    let whole : take (length rest - n) (drop n rest) ≡ drop n rest = take_all _ _ (omega (arith, length-drop n rest)) in
    rw whole (IsUnderWay-more n h w)
