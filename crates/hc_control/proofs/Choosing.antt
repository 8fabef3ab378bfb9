-- Nets that hold where one of several does.
use Rattle.std.proofs.Common.{◌≡◌, ◌<◌, ◌≤◌, ℕ, suc, ◌+◌, List, [], ◌∷◌, length, drop, get_or, Bool, true, false, ◌||◌, refl, ap, sym, ◌∙◌, arith}
use Rattle.std.specs.List.{list_any}
use Rattle.std.proofs.lemmas.List.{drop_more, drop_all}
use Rattle.hc_net.specs.Circuit.{Circuit}
use Rattle.hc_net.specs.Made.{Over, argument, Makes}
use Rattle.hc_net.specs.MadeLemmas.{Makes-none, Makes-then, Makes-last, Makes-holds}
use Rattle.hc_token.specs.declared.ends.Ends.{Ends}
use Rattle.hc_token.proofs.Parts.{All-one, All-two, Makes-over}
use Rattle.hc_control.proofs.Steps.{or_false}

pub or_assoc : (a b c : Bool) → ((a || b) || c) ≡ (a || (b || c))
or_assoc true b c = refl
or_assoc false b c = refl

pub or_parts : (a b : Bool) → (a || b) ≡ false → (a ≡ false) × (b ≡ false)
or_parts true b none = absurd cc
or_parts false b none = (refl, none)

pub any_none : (base : ℕ) (nets : List ℕ) (c : Circuit) → base < length c.nodes
    → Makes 0 (base ∷ nets) c c (base ∷ []) (λ v. (v base || list_any v nets) ≡ (v base || list_any v nets))
any_none base nets c there =
    Makes-holds (Makes-none c (base ∷ nets) (base ∷ []) (All-one (λ k. k < length c.nodes) base there) (All-one (Over c.nodes (base ∷ nets)) base (argument base 0 (omega arith) refl)))
    (omega arith) (λ v none. refl)

pub any_more : (base some net z i : ℕ) (nets ns : List ℕ) (old mid new : Circuit) → ns ≡ nets → i < length nets → net ≡ get_or ns i 0
    → Makes i (base ∷ nets) old mid (some ∷ []) (λ v. (v some || list_any v (drop i nets)) ≡ (v base || list_any v nets))
    → Makes 1 (some ∷ net ∷ []) mid new (z ∷ []) (λ v. v z ≡ (v some || v net))
    → Makes (i + 1) (base ∷ nets) old new (z ∷ []) (λ v. (v z || list_any v (drop (i + 1) nets)) ≡ (v base || list_any v nets))
any_more base some net z i nets ns old mid new same within at made one =
    let is : net ≡ get_or nets i 0 = at ∙ ap (λ l. get_or l i 0) same in
    let here : drop i nets ≡ net ∷ drop (i + 1) nets = drop_more nets i 0 within ∙ ap (λ k. k ∷ drop (i + 1) nets) (sym is) in
    Makes-holds
    (Makes-last made one (All-two (Over mid.nodes (base ∷ nets)) some net (made.reach 0 0 (omega arith)) (argument net (suc i) (omega arith) (sym is))))
    (omega arith)
    (λ v both. ap (λ x. x || list_any v (drop (i + 1) nets)) both.1 ∙ or_assoc (v some) (v net) (list_any v (drop (i + 1) nets)) ∙ ap (λ l. v some || list_any v l) (sym here) ∙ both.0)

pub any_all : (base some i : ℕ) (nets : List ℕ) (old new : Circuit) → length nets ≤ i → i ≤ length nets
    → Makes i (base ∷ nets) old new (some ∷ []) (λ v. (v some || list_any v (drop i nets)) ≡ (v base || list_any v nets))
    → Makes (length nets) (base ∷ nets) old new (some ∷ []) (λ v. v some ≡ (v base || list_any v nets))
any_all base some i nets old new most least made =
    Makes-holds made least (λ v holds. sym (or_false (v some)) ∙ ap (λ l. v some || list_any v l) (sym (drop_all i nets most)) ∙ holds)

pub either_made : (x y : Ends) (pass finish : ℕ) (old mid new : Circuit)
    → Makes 1 (x.pass ∷ y.pass ∷ []) old mid (pass ∷ []) (λ v. v pass ≡ (v x.pass || v y.pass))
    → Makes 1 (x.finish ∷ y.finish ∷ []) mid new (finish ∷ []) (λ v. v finish ≡ (v x.finish || v y.finish))
    → Makes 2 (x.pass ∷ y.pass ∷ x.finish ∷ y.finish ∷ []) old new (pass ∷ finish ∷ []) (λ v. (v pass ≡ (v x.pass || v y.pass)) × (v finish ≡ (v x.finish || v y.finish)))
either_made x y pass finish old mid new first second =
    let args = x.pass ∷ y.pass ∷ x.finish ∷ y.finish ∷ [] in
    Makes-holds
    (Makes-then
    (Makes-over first (All-two (Over old.nodes args) x.pass y.pass (argument x.pass 0 (omega arith) refl) (argument y.pass 1 (omega arith) refl)))
    second
    (All-two (Over mid.nodes args) x.finish y.finish (argument x.finish 2 (omega arith) refl) (argument y.finish 3 (omega arith) refl)))
    (omega arith) (λ v both. both)
