-- Words have one job.
use Rattle.std.proofs.Common.{◌≡◌, ◌≤◌, ◌<◌, ◌^◌, ℕ, List, [], ◌∷◌, Option, Some, None, refl, sym, ◌∙◌, ap, subst, arith, decimal}
use Rattle.std.proofs.lemmas.Fmt.{decimal_injective}
use Rattle.hc_words.specs.Kind.{kind_of, kind_is, first_option, second_option}
use Rattle.hc_words.specs.Words.{says, plains, given, listed}
use Rattle.hc_words.specs.IsJob.{IsJob, HasJob, words_of, first_of, second_of, IsWhole}
use Rattle.hc_words.specs.declared.job.Job.{Job}
use Rattle.hc_words.specs.declared.job.Job.TheVariants.{Build, Check, Sim, Nsim, Compare, Gen, Cells}

one_listed : (a b : Option (List ℕ)) → listed a ≡ listed b → a ≡ b
one_listed None None is = refl
one_listed None (Some b) is = absurd cc
one_listed (Some a) None is = absurd cc
one_listed (Some a) (Some b) is = cc

-- a job is what its words are
same : (job other : Job) → kind_is job ≡ kind_is other → IsWhole job → IsWhole other → words_of job ≡ words_of other → first_of job ≡ first_of other → second_of job ≡ second_of other → job ≡ other
same (Build file edif verilog) (Build file' edif' verilog') kind p q words first second = let e = one_listed edif edif' first in let v = one_listed verilog verilog' second in cc
same (Build file edif verilog) (Check file') kind p q words first second = absurd cc
same (Build file edif verilog) (Sim file' stim' trace') kind p q words first second = absurd cc
same (Build file edif verilog) (Nsim file' stim' trace') kind p q words first second = absurd cc
same (Build file edif verilog) (Compare file' net' stim') kind p q words first second = absurd cc
same (Build file edif verilog) (Gen n') kind p q words first second = absurd cc
same (Build file edif verilog) Cells kind p q words first second = absurd cc
same (Check file) (Build file' edif' verilog') kind p q words first second = absurd cc
same (Check file) (Check file') kind p q words first second = cc
same (Check file) (Sim file' stim' trace') kind p q words first second = absurd cc
same (Check file) (Nsim file' stim' trace') kind p q words first second = absurd cc
same (Check file) (Compare file' net' stim') kind p q words first second = absurd cc
same (Check file) (Gen n') kind p q words first second = absurd cc
same (Check file) Cells kind p q words first second = absurd cc
same (Sim file stim trace) (Build file' edif' verilog') kind p q words first second = absurd cc
same (Sim file stim trace) (Check file') kind p q words first second = absurd cc
same (Sim file stim trace) (Sim file' stim' trace') kind p q words first second = cc
same (Sim file stim trace) (Nsim file' stim' trace') kind p q words first second = absurd cc
same (Sim file stim trace) (Compare file' net' stim') kind p q words first second = absurd cc
same (Sim file stim trace) (Gen n') kind p q words first second = absurd cc
same (Sim file stim trace) Cells kind p q words first second = absurd cc
same (Nsim file stim trace) (Build file' edif' verilog') kind p q words first second = absurd cc
same (Nsim file stim trace) (Check file') kind p q words first second = absurd cc
same (Nsim file stim trace) (Sim file' stim' trace') kind p q words first second = absurd cc
same (Nsim file stim trace) (Nsim file' stim' trace') kind p q words first second = cc
same (Nsim file stim trace) (Compare file' net' stim') kind p q words first second = absurd cc
same (Nsim file stim trace) (Gen n') kind p q words first second = absurd cc
same (Nsim file stim trace) Cells kind p q words first second = absurd cc
same (Compare file net stim) (Build file' edif' verilog') kind p q words first second = absurd cc
same (Compare file net stim) (Check file') kind p q words first second = absurd cc
same (Compare file net stim) (Sim file' stim' trace') kind p q words first second = absurd cc
same (Compare file net stim) (Nsim file' stim' trace') kind p q words first second = absurd cc
same (Compare file net stim) (Compare file' net' stim') kind p q words first second = cc
same (Compare file net stim) (Gen n') kind p q words first second = absurd cc
same (Compare file net stim) Cells kind p q words first second = absurd cc
same (Gen n) (Build file' edif' verilog') kind p q words first second = absurd cc
same (Gen n) (Check file') kind p q words first second = absurd cc
same (Gen n) (Sim file' stim' trace') kind p q words first second = absurd cc
same (Gen n) (Nsim file' stim' trace') kind p q words first second = absurd cc
same (Gen n) (Compare file' net' stim') kind p q words first second = absurd cc
same (Gen n) (Gen n') kind p q words first second = let e = decimal_injective n n' (omega (arith, p.1)) (omega (arith, q.1)) cc in cc
same (Gen n) Cells kind p q words first second = absurd cc
same Cells (Build file' edif' verilog') kind p q words first second = absurd cc
same Cells (Check file') kind p q words first second = absurd cc
same Cells (Sim file' stim' trace') kind p q words first second = absurd cc
same Cells (Nsim file' stim' trace') kind p q words first second = absurd cc
same Cells (Compare file' net' stim') kind p q words first second = absurd cc
same Cells (Gen n') kind p q words first second = absurd cc
same Cells Cells kind p q words first second = refl

pub one : (words : List (List ℕ)) (job other : Job) → IsJob words job → IsJob words other → job ≡ other
one words job other a b =
    let are : a.name ∷ a.rest ≡ b.name ∷ b.rest = sym a.are ∙ b.are in
    let name : a.name ≡ b.name = cc in
    let rest : a.rest ≡ b.rest = cc in
    let some : Some (kind_is job) ≡ Some (kind_is other) = sym a.kind ∙ ap kind_of name ∙ b.kind in
    let kind : kind_is job ≡ kind_is other = cc in
    let said : Some a.entries ≡ Some b.entries =
    sym a.said ∙ ap (λ k. says (first_option k) (second_option k) None a.rest) kind ∙ ap (says (first_option (kind_is other)) (second_option (kind_is other)) None) rest ∙ b.said in
    let entries : a.entries ≡ b.entries = cc in
    same job other kind a.fits.whole b.fits.whole
    (sym a.fits.words ∙ ap plains entries ∙ b.fits.words)
    (sym a.fits.first ∙ ap (λ k. given (first_option k) a.entries) kind ∙ ap (given (first_option (kind_is other))) entries ∙ b.fits.first)
    (sym a.fits.second ∙ ap (λ k. given (second_option k) a.entries) kind ∙ ap (given (second_option (kind_is other))) entries ∙ b.fits.second)
