use Rattle.hc_run.specs.declared.status.Status.TheVariants.{Done, Refused, Usage, ReadFault, Longer}
use Rattle.hc_run.proofs.Clauses.{told_of, write_fault_of, no_memory_of, usage_where, missing_where, longer_where, refused_where, completeness, files_kept, files_due, closed_after, sure_writes, sure_reads}
use Rattle.hc_run.proofs.top.hcc.Goals as goal

pub returns-clause-headline : goal.returns-clause-headline
returns-clause-headline g c = told_of _ _ _ _ _ _ Done (λ e. cc) (λ e. cc) c.answer.ensures.answers

pub returns-clause-refused : goal.returns-clause-refused
returns-clause-refused g c = λ refusal. told_of _ _ _ _ _ _ (Refused refusal) (λ e. cc) (λ e. cc) c.answer.ensures.answers

pub returns-clause-usage : goal.returns-clause-usage
returns-clause-usage g c = told_of _ _ _ _ _ _ Usage (λ e. cc) (λ e. cc) c.answer.ensures.answers

pub returns-clause-read_fault : goal.returns-clause-read_fault
returns-clause-read_fault g c = λ role. told_of _ _ _ _ _ _ (ReadFault role) (λ e. cc) (λ e. cc) c.answer.ensures.answers

pub returns-clause-longer : goal.returns-clause-longer
returns-clause-longer g c = λ role. told_of _ _ _ _ _ _ (Longer role) (λ e. cc) (λ e. cc) c.answer.ensures.answers

pub returns-clause-write_fault : goal.returns-clause-write_fault
returns-clause-write_fault g c = write_fault_of _ _ _ _ _ _ c.answer.ensures.answers

pub returns-clause-no_memory : goal.returns-clause-no_memory
returns-clause-no_memory g c = no_memory_of _ _ _ _ _ _ c.answer.ensures.answers

pub returns-clause-usage_where : goal.returns-clause-usage_where
returns-clause-usage_where g c = usage_where _ _ _ _ _ _ c.answer.ensures.answers

pub returns-clause-missing_where : goal.returns-clause-missing_where
returns-clause-missing_where g c = missing_where _ _ _ _ _ _ c.answer.ensures.answers

pub returns-clause-longer_where : goal.returns-clause-longer_where
returns-clause-longer_where g c = longer_where _ _ _ _ _ _ c.answer.ensures.answers

pub returns-clause-refused_where : goal.returns-clause-refused_where
returns-clause-refused_where g c = refused_where c.one_first_refusal.ensures c.never_both.ensures _ _ _ _ _ _ c.answer.ensures.answers

pub returns-clause-completeness : goal.returns-clause-completeness
returns-clause-completeness g c = completeness c.never_both.ensures _ _ _ _ _ _ c.answer.ensures.answers

pub returns-clause-files_kept : goal.returns-clause-files_kept
returns-clause-files_kept g c = files_kept _ _ _ _ _ _ c.answer.ensures.answers

pub returns-clause-files_due : goal.returns-clause-files_due
returns-clause-files_due g c = files_due _ _ _ _ _ _ c.answer.ensures.answers

pub returns-clause-closed : goal.returns-clause-closed
returns-clause-closed g c = closed_after _ _ _ _ _ _ c.answer.ensures.answers c.requires.closed

pub returns-clause-sure_writes : goal.returns-clause-sure_writes
returns-clause-sure_writes g c =
    sure_writes _ _ _ _ _ _ c.answer.ensures.answers (g.met.S.Store.sound c.args.store.now).writes (g.met.K.Sink.sound c.args.out.now) c.answer.ensures.counts

pub returns-clause-sure_reads : goal.returns-clause-sure_reads
returns-clause-sure_reads g c =
    sure_reads _ _ _ _ _ _ c.answer.ensures.answers (g.met.S.Store.sound c.args.store.now).reads c.answer.ensures.counts
