-- What parts add one after the other is what the whole adds.
use Rattle.std.proofs.Common.{◌≡◌, ℕ, ◌<◌, List, [], ◌∷◌, ◌++◌, length, refl, sym, ap, ◌∙◌}
use Rattle.hc_core.specs.Read.{expression, target, cases, case_before}
use Rattle.hc_core.specs.Depends.{Access, accesses, target_accesses, case_accesses}
use Rattle.hc_core.specs.Rules.{accessed, channels}
use Rattle.hc_core.specs.declared.stmt.Case.{Case}
use Rattle.hc_core.specs.declared.stmt.Case.TheVariants as c
use Rattle.hc_core.proofs.Listing.{is_empty}
use Rattle.hc_core.proofs.Read.{read_no_case}

pub nothing : {A : Type 0} (old : List A) → old ≡ old ++ []
nothing [] = refl
nothing (x ∷ xs) = ap (λ l. x ∷ l) (nothing xs)

pub joined : {A : Type 0} (a b d : List A) → (a ++ b) ++ d ≡ a ++ (b ++ d)
joined [] b d = refl
joined (x ∷ xs) b d = ap (λ l. x ∷ l) (joined xs b d)

pub accessed_append : (a b : List Access) → accessed (a ++ b) ≡ accessed a ++ accessed b
accessed_append [] b = refl
accessed_append (x ∷ xs) b = ap (λ l. x.0 ∷ l) (accessed_append xs b)

-- ---- two or three parts

pub both : {A : Type 0} (old mid new a b : List A) → mid ≡ old ++ a → new ≡ mid ++ b → new ≡ old ++ (a ++ b)
both old mid new a b first second = second ∙ ap (λ l. l ++ b) first ∙ joined old a b

pub two : (old mid new : List ℕ) (a b : List Access) → mid ≡ old ++ accessed a → new ≡ mid ++ accessed b → new ≡ old ++ accessed (a ++ b)
two old mid new a b first second = both old mid new (accessed a) (accessed b) first second ∙ ap (λ l. old ++ l) (sym (accessed_append a b))

pub three : (old mid late new : List ℕ) (a b d : List Access) → mid ≡ old ++ accessed a → late ≡ mid ++ accessed b → new ≡ late ++ accessed d
    → new ≡ old ++ accessed ((a ++ b) ++ d)
three old mid late new a b d first second third = two old late new (a ++ b) d (two old mid late a b first second) third

pub one_more : {A : Type 0} (old mid new b : List A) (k : A) → mid ≡ old ++ k ∷ [] → new ≡ mid ++ b → new ≡ old ++ k ∷ b
one_more old mid new b k first second = both old mid new (k ∷ []) b first second

pub ruleset adding = (nothing, two, three, one_more)

-- ---- lists

-- what was added, and what the rest of a list adds, make up what the whole list adds
pub record Adds {A : Type 0} (start whole now left : List A) : Type 0 where
  pub same : now ++ left ≡ start ++ whole

pub adds_start : {A : Type 0} (start whole : List A) → Adds start whole start whole
adds_start start whole = record { same = refl }

pub adds_next : {A : Type 0} (start whole now left part next rest : List A) → Adds start whole now left → left ≡ part ++ rest → next ≡ now ++ part → Adds start whole next rest
adds_next start whole now left part next rest adds left_is next_is = record {
  same = ap (λ l. l ++ rest) next_is ∙ joined now part rest ∙ ap (λ l. now ++ l) (sym left_is) ∙ adds.same;
}

pub adds_end : {A : Type 0} (start whole now left : List A) → Adds start whole now left → left ≡ [] → now ≡ start ++ whole
adds_end start whole now left adds none = nothing now ∙ ap (λ l. now ++ l) (sym none) ∙ adds.same

-- ---- cases

accesses_split : (first : Case) (behind : List Case)
    → accessed (case_accesses (cases (first ∷ behind))) ≡ accessed (case_accesses (cases (first ∷ []))) ++ accessed (case_accesses (cases behind))
unfolding cases case_before
accesses_split (c.Send chan value body) behind =
    accessed_append (accesses (expression value)) (case_accesses (cases behind)) ∙ ap (λ l. accessed l ++ accessed (case_accesses (cases behind))) (nothing (accesses (expression value)))
accesses_split (c.Recv chan to body) behind =
    accessed_append (target_accesses (target to)) (case_accesses (cases behind)) ∙ ap (λ l. accessed l ++ accessed (case_accesses (cases behind))) (nothing (target_accesses (target to)))

pub accesses_of : (rest behind : List Case) (first : Case) → rest ≡ first ∷ behind
    → accessed (case_accesses (cases rest)) ≡ accessed (case_accesses (cases (first ∷ []))) ++ accessed (case_accesses (cases behind))
accesses_of rest behind first is = ap (λ l. accessed (case_accesses (cases l))) is ∙ accesses_split first behind

pub no_accesses : (rest : List Case) → length rest < 1 → accessed (case_accesses (cases rest)) ≡ []
no_accesses rest few = ap (λ l. accessed (case_accesses l)) (ap cases (is_empty rest few) ∙ read_no_case)

channels_split : (first : Case) (behind : List Case) → channels (cases (first ∷ behind)) ≡ channels (cases (first ∷ [])) ++ channels (cases behind)
unfolding cases case_before
channels_split (c.Send chan value body) behind = refl
channels_split (c.Recv chan to body) behind = refl

pub channels_of : (rest behind : List Case) (first : Case) → rest ≡ first ∷ behind → channels (cases rest) ≡ channels (cases (first ∷ [])) ++ channels (cases behind)
channels_of rest behind first is = ap (λ l. channels (cases l)) is ∙ channels_split first behind

pub no_channels : (rest : List Case) → length rest < 1 → channels (cases rest) ≡ []
no_channels rest few = ap channels (ap cases (is_empty rest few) ∙ read_no_case)
