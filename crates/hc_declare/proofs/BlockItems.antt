-- What a block declares, one item after another.
use Rattle.std.proofs.Common.{◌≡◌, ◌-◌, List, ◌∷◌, Err, length, drop, take, ap, sym, ◌∙◌}
use Rattle.std.proofs.lemmas.List.{take_rest}
use Rattle.hc_tree.specs.declared.refusal.FrontErr.{FrontErr}
use Rattle.hc_tree.specs.declared.refusal.FrontErr.TheVariants.{Refused, NoMemory}
use Rattle.hc_tree.specs.declared.stmt.LocalItem.{LocalItem, out-LocalItem}
use Rattle.hc_scope.specs.Expansion.{Outcome, Yields, and_then}
use Rattle.hc_scope.specs.Parts.{Parts, Context}
use Rattle.hc_scope.specs.Reading.{Answers}
use Rattle.hc_scope.specs.Statement.{local_layer, locals}
use Rattle.hc_scope.specs.declared.state.State.{State}

-- an item is declared
pub locals_step : (p : Parts) (c inner : Context) (items : List LocalItem) (item : LocalItem) (s t : State) → items ≡ item ∷ drop 1 items
    → local_layer p c (out-LocalItem item) s ≡ Yields inner t → locals p c items s ≡ locals p inner (take (length items - 1) (drop 1 items)) t
locals_step p c inner items item s t apart is =
    ap (λ l. locals p c l s) apart ∙ ap (λ o. and_then o (λ d. locals p d (drop 1 items))) is ∙ ap (λ l. locals p inner l t) (sym (take_rest items 1))

-- an item breaks a rule, and so they all do
pub locals_stop : (p : Parts) (c : Context) (items : List LocalItem) (item : LocalItem) (whole : Outcome Context) (e : FrontErr) (s t u : State)
    → whole ≡ locals p c items s → items ≡ item ∷ drop 1 items
    → Answers {A = Context} (λ d. d) (local_layer p c (out-LocalItem item) s) (Err e) t → Answers {A = Context} (λ d. d) whole (Err e) u
locals_stop p c items item whole (Refused r) s t u is apart stops =
    is ∙ ap (λ l. locals p c l s) apart ∙ ap (λ o. and_then o (λ d. locals p d (drop 1 items))) stops
locals_stop p c items item whole NoMemory s t u is apart stops = tt
