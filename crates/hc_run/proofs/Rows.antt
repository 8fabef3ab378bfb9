-- Rows of words and of lines, as plain tests of the definitions.
use Rattle.std.specs.Prelude.{◌≡◌, [], ◌∷◌, codes, refl}
use Rattle.std.proofs.Common.{ℕ, List, arith, ap}
use Rattle.std.proofs.lemmas.Fmt.{decimal_digit}
use Rattle.hc_run.specs.declared.status.Role.TheVariants.{Source}
use Rattle.hc_run.specs.Words.{IsBuild, IsCheck, Loads, to_build, to_check, HasNoJob}
use Rattle.hc_run.specs.Refused.{rule_name, detail_text, refusal_line}
use Rattle.hc_run.specs.Lines.{built_line, checked_line, role_name, read_fault_line, longer_line}
use Rattle.hc_run.specs.Answer.{not_built}

row_built : built_line 6 8 2 ≡ codes "built: gates 6, flip-flops 8, rams 2\n"
unfolding built_line
row_built = rw (decimal_digit 6 (omega arith), decimal_digit 8 (omega arith), decimal_digit 2 (omega arith)) refl

row_checked : checked_line 1 3 8 ≡ codes "objects 1, weight 3, flip-flops 8\n"
unfolding checked_line
row_checked = rw (decimal_digit 1 (omega arith), decimal_digit 3 (omega arith), decimal_digit 8 (omega arith)) refl

row_refused : refusal_line (not_built (record { line = 3; column = 1 })) ≡ codes "refused NotBuilt at 3:1\n"
unfolding refusal_line rule_name detail_text
row_refused = rw (decimal_digit 3 (omega arith), decimal_digit 1 (omega arith)) refl

row_read_fault : read_fault_line Source ≡ codes "read fault: source\n"
unfolding read_fault_line role_name
row_read_fault = refl

row_longer : longer_line Source ≡ codes "too long: source\n"
unfolding longer_line role_name
row_longer = refl

row_build : IsBuild (codes "build" ∷ codes "first.hc" ∷ codes "--edif" ∷ codes "-" ∷ []) (codes "first.hc") (codes "-")
row_build = record { words = refl; source = refl; output = refl; apart = λ e. cc }

row_check : IsCheck (codes "check" ∷ codes "first.hc" ∷ []) (codes "first.hc")
row_check = record { words = refl; source = refl }

-- the first byte of the first word
abbrev first_byte : List (List ℕ) → ℕ
first_byte [] = 0
first_byte ([] ∷ words) = 0
first_byte ((b ∷ bytes) ∷ words) = b

other_letter : ◌≡◌ {A = ℕ} 98 99 → ⊥
other_letter e = absurd (omega arith)

no_output : (file : _) → Loads (codes "build" ∷ codes "a.hc" ∷ []) file → ⊥
no_output file (to_build edif h) = let e = h.words in cc
no_output file (to_check h) = other_letter (ap first_byte h.words)

row_no_output : HasNoJob (codes "build" ∷ codes "a.hc" ∷ [])
row_no_output = no_output

same_name : (file : _) → Loads (codes "build" ∷ codes "a.hc" ∷ codes "--edif" ∷ codes "a.hc" ∷ []) file → ⊥
same_name file (to_build edif h) = let e = h.words in h.apart (cc)
same_name file (to_check h) = let e = h.words in cc

row_same_name : HasNoJob (codes "build" ∷ codes "a.hc" ∷ codes "--edif" ∷ codes "a.hc" ∷ [])
row_same_name = same_name

other_job : (file : _) → Loads (codes "gen" ∷ codes "1" ∷ []) file → ⊥
other_job file (to_build edif h) = let e = h.words in cc
other_job file (to_check h) = let e = h.words in cc

row_other_job : HasNoJob (codes "gen" ∷ codes "1" ∷ [])
row_other_job = other_job

no_words : (file : _) → Loads [] file → ⊥
no_words file (to_build edif h) = let e = h.words in cc
no_words file (to_check h) = let e = h.words in cc

row_no_words : HasNoJob []
row_no_words = no_words
