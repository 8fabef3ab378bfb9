-- A list that grows to a whole.
use Rattle.std.specs.Prelude.{◌≡◌, ◌++◌, List}
use Rattle.std.proofs.Common.{sym, ◌∙◌, ap, append_assoc}

-- what is there, with the rest after it, is the whole
pub record IsAdding {A : Type 0} (whole now rest : List A) : Type 0 where
  pub parts : now ++ rest ≡ whole

pub IsAdding-more : {A : Type 0} {whole now rest next : List A} (a others : List A) → IsAdding whole now rest → next ≡ now ++ a → rest ≡ a ++ others → IsAdding whole next others
IsAdding-more {now = now} a others h grown is = record {
  parts = ap (λ t. t ++ others) grown ∙ append_assoc now a others ∙ ap (λ t. now ++ t) (sym is) ∙ h.parts;
}
