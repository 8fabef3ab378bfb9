-- Four words as the words of a job.
use Rattle.std.proofs.Common.{◌≡◌, ◌<◌, ◌≤◌, ℕ, List, [], ◌∷◌, length, map, get_or, Option, arith, refl, sym, subst}
use Rattle.std.specs.Prelude.{MatchOption}
use Rattle.hc_run.specs.Job.{IsJob}
use Rattle.hc_run.specs.Words.{HasNoJob}
use Rattle.hc_run.specs.declared.words.Job.{Job}

pub four_words : {S : Type 0} (f : S → List ℕ) (words : List S) (a b c d : S) → 4 ≤ length words → length words < 5
    → a ≡ get_or words 0 a → b ≡ get_or words 1 b → c ≡ get_or words 2 c → d ≡ get_or words 3 d → map f words ≡ f a ∷ f b ∷ f c ∷ f d ∷ []
four_words f [] a b c d least most p q r s = absurd (omega arith)
four_words f (v ∷ []) a b c d least most p q r s = absurd (omega arith)
four_words f (v ∷ w ∷ []) a b c d least most p q r s = absurd (omega arith)
four_words f (v ∷ w ∷ x ∷ []) a b c d least most p q r s = absurd (omega arith)
four_words f (v ∷ w ∷ x ∷ y ∷ []) a b c d least most p q r s = rw (p, q, r, s) refl
four_words f (v ∷ w ∷ x ∷ y ∷ z ∷ rest) a b c d least most p q r s = absurd (omega arith)

-- a job of words that are these four
pub job_of_four : (words : List (List ℕ)) (a b c d : List ℕ) (result : Option Job) → words ≡ a ∷ b ∷ c ∷ d ∷ [] → MatchOption result (HasNoJob (a ∷ b ∷ c ∷ d ∷ [])) (IsJob (a ∷ b ∷ c ∷ d ∷ []))
    → MatchOption result (HasNoJob words) (IsJob words)
job_of_four words a b c d result is h = subst (λ (l : List (List ℕ)). MatchOption result (HasNoJob l) (IsJob l)) (sym is) h
