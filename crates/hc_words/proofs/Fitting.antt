-- Jobs and the parts that they are made of.
use Rattle.std.proofs.Common.{◌≡◌, ◌≤◌, ◌<◌, ◌++◌, ℕ, List, [], ◌∷◌, Option, Some, None, Result, IfOk, IfErr, length, refl, sym, ◌∙◌, ap, subst, arith}
use Rattle.std.proofs.lemmas.Result.{IfErr-weaker, IfOk-weaker}
use Rattle.hc_words.specs.Kind.{kind_of, kind_is, first_option, second_option}
use Rattle.hc_words.specs.Words.{Entry, says, plains, given, listed}
use Rattle.hc_words.specs.Said.{AreMany}
use Rattle.hc_words.specs.IsJob.{IsJob, HasJob, words_of, first_of, second_of, IsWhole, Differ}
use Rattle.hc_words.specs.Answer.{HasNoJob, IfUsage, NoneIs, HasParts, FitsParts, FitsEntries, FitsWords}
use Rattle.hc_words.specs.declared.kind.Kind.{Kind}
use Rattle.hc_words.specs.declared.job.Job.{Job}
use Rattle.hc_words.specs.declared.job.Job.TheVariants.{Build, Check, Sim, Nsim, Compare, Gen, Cells}
use Rattle.hc_words.specs.declared.words.WordsErr.{WordsErr}
use Rattle.hc_words.specs.declared.words.WordsErr.TheVariants.{Usage, NoMemory}

usage_weaker : (P Q : Job → Type 0) → ((j : Job) → Q j → P j) → (e : WordsErr) → IfUsage (NoneIs P) e → IfUsage (NoneIs Q) e
usage_weaker P Q f Usage h = λ j q. h j (f j q)
usage_weaker P Q f NoMemory h = tt

-- the same answer, of jobs that are so just where they were so before
pub ok_as : (r : Result Job WordsErr) (P Q : Job → Type 0) → ((j : Job) → P j → Q j) → IfOk r P → IfOk r Q
ok_as r P Q f h = IfOk-weaker r P Q f h

pub usage_as : (r : Result Job WordsErr) (P Q : Job → Type 0) → ((j : Job) → Q j → P j) → IfErr r (IfUsage (NoneIs P)) → IfErr r (IfUsage (NoneIs Q))
usage_as r P Q f h = IfErr-weaker r _ _ (usage_weaker P Q f) h

differ_at : (a b c d : List (List ℕ)) → a ≡ b → c ≡ d → Differ a c → Differ b d
differ_at a b c d p q h = subst (λ t. Differ t d) p (subst (λ t. Differ a t) q h)

-- ---- no two of the names are equal

pub parts_apart : (kind : Kind) (w a b : Option (List ℕ)) → Differ (listed w) (listed a) → Differ (listed w) (listed b) → Differ (listed a) (listed b) → (j : Job) → HasParts kind w a b j → FitsParts kind w a b j
parts_apart kind w a b p q r j h = record { parts = h; first_apart = p; second_apart = q; options_apart = r }

pub parts_only : (kind : Kind) (w a b : Option (List ℕ)) (j : Job) → FitsParts kind w a b j → HasParts kind w a b j
parts_only kind w a b j h = h.parts

-- ---- the entries

pub fits_entries : (kind : Kind) (entries : List Entry) (w a b : Option (List ℕ)) → plains entries ≡ listed w → given (first_option kind) entries ≡ listed a → given (second_option kind) entries ≡ listed b
    → (j : Job) → FitsParts kind w a b j → FitsEntries kind entries j
fits_entries kind entries w a b e1 e2 e3 j h = record {
  of_kind = h.parts.of_kind;
  fits = record {
    words = e1 ∙ sym h.parts.words;
    first = ap (λ k. given (first_option k) entries) h.parts.of_kind ∙ e2 ∙ sym h.parts.one;
    second = ap (λ k. given (second_option k) entries) h.parts.of_kind ∙ e3 ∙ sym h.parts.other;
    whole = h.parts.whole;
    first_apart = differ_at _ _ _ _ (sym h.parts.words) (sym h.parts.one) h.first_apart;
    second_apart = differ_at _ _ _ _ (sym h.parts.words) (sym h.parts.other) h.second_apart;
    options_apart = differ_at _ _ _ _ (sym h.parts.one) (sym h.parts.other) h.options_apart;
  };
}

pub fits_parts : (kind : Kind) (entries : List Entry) (w a b : Option (List ℕ)) → plains entries ≡ listed w → given (first_option kind) entries ≡ listed a → given (second_option kind) entries ≡ listed b
    → (j : Job) → FitsEntries kind entries j → FitsParts kind w a b j
fits_parts kind entries w a b e1 e2 e3 j h =
    let words : words_of j ≡ listed w = sym h.fits.words ∙ e1 in
    let one : first_of j ≡ listed a = sym h.fits.first ∙ ap (λ k. given (first_option k) entries) h.of_kind ∙ e2 in
    let other : second_of j ≡ listed b = sym h.fits.second ∙ ap (λ k. given (second_option k) entries) h.of_kind ∙ e3 in
    record {
      parts = record { of_kind = h.of_kind; words = words; one = one; other = other; whole = h.fits.whole };
      first_apart = differ_at _ _ _ _ words one h.fits.first_apart;
      second_apart = differ_at _ _ _ _ words other h.fits.second_apart;
      options_apart = differ_at _ _ _ _ one other h.fits.options_apart;
    }

few_listed : (a : Option (List ℕ)) → length (listed a) ≤ 1
few_listed None = omega arith
few_listed (Some a) = omega arith

few_words : (j : Job) → length (words_of j) ≤ 1
few_words (Build f e v) = omega arith
few_words (Check f) = omega arith
few_words (Sim f a b) = omega arith
few_words (Nsim f a b) = omega arith
few_words (Compare f a b) = omega arith
few_words (Gen n) = omega arith
few_words Cells = omega arith

few_first : (j : Job) → length (first_of j) ≤ 1
few_first (Build f e v) = few_listed e
few_first (Check f) = omega arith
few_first (Sim f a b) = omega arith
few_first (Nsim f a b) = omega arith
few_first (Compare f a b) = omega arith
few_first (Gen n) = omega arith
few_first Cells = omega arith

few_second : (j : Job) → length (second_of j) ≤ 1
few_second (Build f e v) = few_listed v
few_second (Check f) = omega arith
few_second (Sim f a b) = omega arith
few_second (Nsim f a b) = omega arith
few_second (Compare f a b) = omega arith
few_second (Gen n) = omega arith
few_second Cells = omega arith

pub many_words : (kind : Kind) (entries : List Entry) → AreMany (plains entries) → NoneIs (FitsEntries kind entries)
many_words kind entries many j h = omega (arith, few_words j, ap length h.fits.words)

pub many_first : (kind : Kind) (entries : List Entry) → AreMany (given (first_option kind) entries) → NoneIs (FitsEntries kind entries)
many_first kind entries many j h = omega (arith, few_first j, ap length h.fits.first, ap (λ k. length (given (first_option k) entries)) h.of_kind)

pub many_second : (kind : Kind) (entries : List Entry) → AreMany (given (second_option kind) entries) → NoneIs (FitsEntries kind entries)
many_second kind entries many j h = omega (arith, few_second j, ap length h.fits.second, ap (λ k. length (given (second_option k) entries)) h.of_kind)

-- ---- the words

pub fits_words : (kind : Kind) (words : List (List ℕ)) (entries : List Entry) → says (first_option kind) (second_option kind) None words ≡ Some entries → (j : Job) → FitsEntries kind entries j → FitsWords kind words j
fits_words kind words entries said j h = record { of_kind = h.of_kind; entries = entries; said = said; fits = h.fits }

pub words_fit : (kind : Kind) (words : List (List ℕ)) (entries : List Entry) → says (first_option kind) (second_option kind) None words ≡ Some entries → (j : Job) → FitsWords kind words j → FitsEntries kind entries j
words_fit kind words entries said j h =
    let some : Some h.entries ≡ Some entries = sym h.said ∙ said in
    let is : h.entries ≡ entries = cc in
    record { of_kind = h.of_kind; fits = subst (λ t. HasJob t j) is h.fits }

pub wrong_words : (kind : Kind) (words : List (List ℕ)) → says (first_option kind) (second_option kind) None words ≡ None → NoneIs (FitsWords kind words)
wrong_words kind words said j h = let is : Some h.entries ≡ None = sym h.said ∙ said in cc

pub is_job : (words : List (List ℕ)) (name : List ℕ) (rest : List (List ℕ)) (kind : Kind) → words ≡ name ∷ rest → kind_of name ≡ Some kind → (j : Job) → FitsWords kind rest j → IsJob words j
is_job words name rest kind are is j h = record {
  name = name;
  rest = rest;
  entries = h.entries;
  are = are;
  kind = is ∙ ap Some (sym h.of_kind);
  said = ap (λ k. says (first_option k) (second_option k) None rest) h.of_kind ∙ h.said;
  fits = h.fits;
}

pub job_fits : (words : List (List ℕ)) (name : List ℕ) (rest : List (List ℕ)) (kind : Kind) → words ≡ name ∷ rest → kind_of name ≡ Some kind → (j : Job) → IsJob words j → FitsWords kind rest j
job_fits words name rest kind are is j h =
    let both : name ∷ rest ≡ h.name ∷ h.rest = sym are ∙ h.are in
    let same_name : name ≡ h.name = cc in
    let same_rest : rest ≡ h.rest = cc in
    let some : Some (kind_is j) ≡ Some kind = sym h.kind ∙ ap kind_of (sym same_name) ∙ is in
    let of_kind : kind_is j ≡ kind = cc in
    record {
      of_kind = of_kind;
      entries = h.entries;
      said = ap (λ k. says (first_option k) (second_option k) None rest) (sym of_kind) ∙ ap (says (first_option (kind_is j)) (second_option (kind_is j)) None) same_rest ∙ h.said;
      fits = h.fits;
    }

pub no_kind : (words : List (List ℕ)) (name : List ℕ) (rest : List (List ℕ)) → words ≡ name ∷ rest → kind_of name ≡ None → HasNoJob words
no_kind words name rest are is j h =
    let both : name ∷ rest ≡ h.name ∷ h.rest = sym are ∙ h.are in
    let same_name : name ≡ h.name = cc in
    let none : Some (kind_is j) ≡ None = sym h.kind ∙ ap kind_of (sym same_name) ∙ is in cc

pub no_words : (words : List (List ℕ)) → words ≡ [] → HasNoJob words
no_words words none j h = let is : h.name ∷ h.rest ≡ [] = sym h.are ∙ none in cc
