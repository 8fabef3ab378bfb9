-- Judgements step by step: which rules hold, and what is judged behind them.
use Rattle.std.proofs.Common.{◌≡◌, ℕ, Bool, true, false, not, ◌&&◌, ℤ, pos, refl, sym, ap, ◌∙◌, subst, arith, Result, Ok, Err, List}
use Rattle.hc_tree.specs.declared.place.Place.{Place}
use Rattle.hc_tree.specs.declared.refusal.FrontErr.{FrontErr}
use Rattle.hc_tree.specs.declared.refusal.Rule.{Rule}
use Rattle.hc_tree.specs.declared.refusal.Rule.TheVariants.{S10, S11}
use Rattle.hc_tree.specs.declared.refusal.Detail.{Detail}
use Rattle.hc_tree.specs.declared.refusal.Detail.TheVariants.{Nothing}
use Rattle.hc_num.specs.Number.{Number}
use Rattle.hc_core.specs.Program.{Expression, Constant, Binary, Choice}
use Rattle.hc_core.specs.Typed.{width_of, sign_of, Group, group_of}
use Rattle.hc_core.specs.declared.expr.BinOp.{BinOp}
use Rattle.hc_tree.specs.declared.refusal.Refusal.{Refusal}
use Rattle.hc_width.specs.Binary.{needs_unsigned, alike, by_group, binary}
use Rattle.hc_core.specs.declared.object.Kind.{Kind}
use Rattle.hc_width.specs.declared.value.Value.{Value}
use Rattle.hc_width.specs.Whole.{fits, number_in}
use Rattle.hc_width.specs.Operand.{Operand, Whole, Of, constant_in}
use Rattle.hc_width.specs.Judged.{Judged, Gives, Breaks, Answers, Finds, FindsBy, Passes, unless, equal_widths, equal_signs}
use Rattle.hc_width.specs.Unary.{fitted}
use Rattle.hc_width.specs.Parts.{condition, choose}

-- an answer to one judgement is one to an equal judgement
pub answers_as : (judged other : Judged Operand) (at : Place) (r : Result Value FrontErr) → judged ≡ other → Answers other at r → Answers judged at r
answers_as judged other at r same is = subst (λ (j : Judged Operand). Answers j at r) (sym same) is

-- ---- what a judgement that gives something says

pub unless_gives : {A : Type 0} (broken : Bool) (rule : Rule) (other : Judged A) (a : A) → unless broken rule other ≡ Gives a → (broken ≡ false) × (other ≡ Gives a)
unless_gives true rule other a is = absurd (cc)
unless_gives false rule other a is = (refl, is)

pub widths_give : {A : Type 0} (w v : ℕ) (other : Judged A) (a : A) → equal_widths w v other ≡ Gives a → (w ≡ v) × (other ≡ Gives a)
widths_give w v other a is = grind arith

pub signs_give : {A : Type 0} (r s : Bool) (other : Judged A) (a : A) → equal_signs r s other ≡ Gives a → (r ≡ s) × (other ≡ Gives a)
signs_give true true other a is = (refl, is)
signs_give false false other a is = (refl, is)
signs_give true false other a is = absurd (cc)
signs_give false true other a is = absurd (cc)

-- ---- rules that hold

pub same_widths : {A : Type 0} (w v : ℕ) (judged : Judged A) → w ≡ v → equal_widths w v judged ≡ judged
same_widths w v judged is = grind arith

pub same_signs : {A : Type 0} (r s : Bool) (judged : Judged A) → r ≡ s → equal_signs r s judged ≡ judged
same_signs true true judged is = refl
same_signs false false judged is = refl
same_signs true false judged is = absurd (cc)
same_signs false true judged is = absurd (cc)

pub rule_holds : {A : Type 0} (broken : Bool) (rule : Rule) (judged : Judged A) → broken ≡ false → unless broken rule judged ≡ judged
rule_holds false rule judged is = refl
rule_holds true rule judged is = absurd (cc)

pub rule_broken : {A : Type 0} (broken : Bool) (rule : Rule) (judged : Judged A) → broken ≡ true → unless broken rule judged ≡ unless true rule judged
rule_broken true rule judged is = refl
rule_broken false rule judged is = absurd (cc)

-- ---- a constant beside what is typed

pub fits_give : (w : ℕ) (s : Bool) (v : ℤ) (n : Number) (other : Judged Operand) → fitted w s v ≡ Gives n
    → (unless (not (fits w v)) S11 other ≡ other) × (number_in w s v ≡ n)
unfolding fitted
fits_give w s v n other is =
    let g = unless_gives (not (fits w v)) S11 (Gives (number_in w s v)) n is in
    let same : Gives (number_in w s v) ≡ Gives n = g.1 in
    (rule_holds (not (fits w v)) S11 other (g.0), cc)

fits_break_by : (b : Bool) (m : Number) (rule : Rule) (detail : Detail) (other : Judged Operand) → unless b S11 (Gives m) ≡ Breaks rule detail
    → unless b S11 other ≡ Breaks rule detail
fits_break_by true m rule detail other is = cc
fits_break_by false m rule detail other is = absurd (cc)

pub fits_break : (w : ℕ) (s : Bool) (v : ℤ) (rule : Rule) (detail : Detail) (other : Judged Operand) → fitted w s v ≡ Breaks rule detail
    → unless (not (fits w v)) S11 other ≡ Breaks rule detail
unfolding fitted
fits_break w s v rule detail other is = fits_break_by (not (fits w v)) (number_in w s v) rule detail other is

-- ---- choices

pub choose_second : (kinds : List Kind) (by : Operand) (a : Expression) (b : ℤ) (n : Number) → fitted (width_of kinds a) (sign_of kinds a) b ≡ Gives n
    → choose kinds by (Of a) (Whole b) ≡ Gives (Of (Choice (condition by) a (Constant n)))
unfolding choose
choose_second kinds by a b n is =
    let g = fits_give (width_of kinds a) (sign_of kinds a) b n _ is in
    g.0 ∙ ap (λ m. Gives (Of (Choice (condition by) a (Constant m)))) (g.1)

pub choose_first : (kinds : List Kind) (by : Operand) (a : ℤ) (b : Expression) (n : Number) → fitted (width_of kinds b) (sign_of kinds b) a ≡ Gives n
    → choose kinds by (Whole a) (Of b) ≡ Gives (Of (Choice (condition by) (Constant n) b))
unfolding choose
choose_first kinds by a b n is =
    let g = fits_give (width_of kinds b) (sign_of kinds b) a n _ is in
    g.0 ∙ ap (λ m. Gives (Of (Choice (condition by) (Constant m) b))) (g.1)

pub choose_second_breaks : (kinds : List Kind) (by : Operand) (a : Expression) (b : ℤ) (rule : Rule) (detail : Detail)
    → fitted (width_of kinds a) (sign_of kinds a) b ≡ Breaks rule detail → choose kinds by (Of a) (Whole b) ≡ Breaks rule detail
unfolding choose
choose_second_breaks kinds by a b rule detail is = fits_break (width_of kinds a) (sign_of kinds a) b rule detail _ is

pub choose_first_breaks : (kinds : List Kind) (by : Operand) (a : ℤ) (b : Expression) (rule : Rule) (detail : Detail)
    → fitted (width_of kinds b) (sign_of kinds b) a ≡ Breaks rule detail → choose kinds by (Whole a) (Of b) ≡ Breaks rule detail
unfolding choose
choose_first_breaks kinds by a b rule detail is = fits_break (width_of kinds b) (sign_of kinds b) a rule detail _ is

-- ---- operators between two operands, by their groups

pub passes_as : (judged other behind behind' : Judged Operand) (at : Place) (r : Result (Unit {0}) Refusal) → judged ≡ other → behind ≡ behind'
    → Passes other behind at r → Passes judged behind' at r
passes_as judged other behind behind' at (Ok u) p q is = p ∙ is ∙ q
passes_as judged other behind behind' at (Err f) p q is = (p ∙ is.0, is.1)

pub finds_as : (judged other : Judged Operand) (made : Number → Operand) (at : Place) (r : Result Number Refusal) → judged ≡ other
    → FindsBy other made at r → FindsBy judged made at r
finds_as judged other made at (Ok n) p is = p ∙ is
finds_as judged other made at (Err f) p is = (p ∙ is.0, is.1)

pub finds_by : (w : ℕ) (s : Bool) (v : ℤ) (made : Number → Operand) (at : Place) (r : Result Number Refusal) → Finds (fitted w s v) at r
    → FindsBy (unless (not (fits w v)) S11 (Gives (made (number_in w s v)))) made at r
finds_by w s v made at (Ok n) is =
    let g = fits_give w s v n (Gives (made (number_in w s v))) is in
    g.0 ∙ ap (λ m. Gives (made m)) (g.1)
finds_by w s v made at (Err f) is = (fits_break w s v f.rule f.detail _ is.0, is.1)

pub by_is : (kinds : List Kind) (o : BinOp) (a b : Operand) (g : Group) → g ≡ group_of o → binary kinds o a b ≡ by_group kinds g o a b
unfolding binary
by_is kinds o a b g is = ap (λ k. by_group kinds k o a b) (sym is)

pub alike_types : (kinds : List Kind) (o : BinOp) (a b : Expression) (g : Group) → g ≡ group_of o → alike kinds o (Of a) (Of b)
    ≡ equal_widths (width_of kinds a) (width_of kinds b) (equal_signs (sign_of kinds a) (sign_of kinds b) (unless (needs_unsigned g && sign_of kinds a) S10 (Gives (Of (Binary o a b)))))
alike_types kinds o a b g is =
    ap (λ k. equal_widths (width_of kinds a) (width_of kinds b) (equal_signs (sign_of kinds a) (sign_of kinds b) (unless (needs_unsigned k && sign_of kinds a) S10 (Gives (Of (Binary o a b)))))) (sym is)

pub alike_second : (kinds : List Kind) (o : BinOp) (a : Expression) (b : ℤ) (g : Group) → g ≡ group_of o → alike kinds o (Of a) (Whole b)
    ≡ unless (needs_unsigned g && sign_of kinds a) S10 (unless (not (fits (width_of kinds a) b)) S11 (Gives (Of (Binary o a (constant_in (width_of kinds a) (sign_of kinds a) b)))))
alike_second kinds o a b g is =
    ap (λ k. unless (needs_unsigned k && sign_of kinds a) S10 (unless (not (fits (width_of kinds a) b)) S11 (Gives (Of (Binary o a (constant_in (width_of kinds a) (sign_of kinds a) b)))))) (sym is)

pub alike_first : (kinds : List Kind) (o : BinOp) (a : ℤ) (b : Expression) (g : Group) → g ≡ group_of o → alike kinds o (Whole a) (Of b)
    ≡ unless (needs_unsigned g && sign_of kinds b) S10 (unless (not (fits (width_of kinds b) a)) S11 (Gives (Of (Binary o (constant_in (width_of kinds b) (sign_of kinds b) a) b))))
alike_first kinds o a b g is =
    ap (λ k. unless (needs_unsigned k && sign_of kinds b) S10 (unless (not (fits (width_of kinds b) a)) S11 (Gives (Of (Binary o (constant_in (width_of kinds b) (sign_of kinds b) a) b))))) (sym is)

-- a refusal by a rule with no more to say
pub breaks_by : (judged : Judged Operand) (r : Refusal) (rule : Rule) (at : Place) → r ≡ record { rule = rule; place = at; detail = Nothing }
    → judged ≡ Breaks rule Nothing → (judged ≡ Breaks r.rule r.detail) × (r.place ≡ at)
breaks_by judged r rule at is broken =
    (broken ∙ ap (λ (x : Refusal). Breaks x.rule x.detail) (sym is), ap (λ (x : Refusal). x.place) is)

-- a sign that the rule on signs lets through
pub no_sign : (s : Bool) → ((behind : Judged Operand) → unless s S10 behind ≡ behind) → s ≡ false
no_sign s each = (unless_gives s S10 (Gives (Whole (pos 0))) (Whole (pos 0)) (each (Gives (Whole (pos 0))))).0
