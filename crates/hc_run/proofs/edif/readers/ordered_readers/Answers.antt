use Rattle.std.proofs.Common.{rules}
use Rattle.std.proofs.lemmas.List.Sorted.{IsNonDecreasingBy-from_sort_by_key, answers_always}
use Rattle.hc_run.proofs.Order.{IsOrdered-from_sort}
use Rattle.hc_run.proofs.edif.readers.ordered_readers.Goals as goal

pub returns : goal.returns
returns c =
    IsOrdered-from_sort _ _ _ c.in_ok-list.ensures
    (IsNonDecreasingBy-from_sort_by_key (λ r. r.net) _ c.in_ok-sort_by_key.ensures.sorted (λ a r q k. search rules))
    (c.in_ok-sort_by_key.ensures.stable (λ r. r.net) (answers_always _ _ _ (λ f a r q k. search rules)))
