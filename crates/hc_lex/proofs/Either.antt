-- Bytes have tokens within the limits or a first breach.
use Rattle.std.proofs.Common.{◌≡◌, ◌⊎◌, inl, inr, ℕ, zero, suc, ◌+◌, ◌-◌, ◌≤◌, ◌<◌, List, [], ◌∷◌, length, take, drop, Option, Some, None, refl, arith}
use Rattle.std.proofs.lemmas.List.{length-drop}
use Rattle.std.proofs.lemmas.List.Elements.{All-nil, All-cons}
use Rattle.hc_tree.specs.declared.place.Place.{Place}
use Rattle.hc_tree.specs.declared.refusal.Rule.{Rule}
use Rattle.hc_tree.specs.declared.refusal.Rule.TheVariants.{S1}
use Rattle.hc_tree.specs.declared.refusal.FrontErr.{FrontErr}
use Rattle.hc_tree.specs.declared.refusal.FrontErr.TheVariants.{Refused, NoMemory}
use Rattle.hc_lex.specs.Front.{front, least, IsWithin}
use Rattle.hc_lex.specs.Place.{place_behind}
use Rattle.hc_lex.specs.Lexes.{ends, skips, takes, Stops, breaks, passes, after_skip, after_token, HasTokens, HasBreach, IsShort, IfRefused, passed, token_of}
use Rattle.hc_lex.specs.declared.front.Kind.{Kind}
use Rattle.hc_lex.specs.declared.front.Kind.TheVariants as k
use Rattle.hc_lex.specs.declared.front.Front.{Front}
use Rattle.hc_lex.specs.declared.front.Front.TheVariants as f
use Rattle.hc_lex.specs.declared.token.Placed.{Placed}
use Rattle.hc_lex.proofs.Readings.{within, not-both}
use Rattle.hc_lex.proofs.Fronts.{front-within}

abbrev pub Either : ℕ → Place → List ℕ → Type 0
Either before at bytes = HasTokens before at bytes ⊎ HasBreach before at bytes

abbrev pub Behind : ℕ → Place → List ℕ → ℕ → Type 0
Behind before at bytes n = Either before (place_behind at (take n bytes)) (drop n bytes)

least-some : (kind : Kind) → 1 ≤ least kind
least-some k.Word = omega arith
least-some (k.Number n) = omega arith
least-some k.Text = omega arith
least-some (k.Mark m) = omega arith

behind-skip : (before : ℕ) (at : Place) (bytes : List ℕ) (n : ℕ) → front bytes ≡ f.Skip n → Behind before at bytes n → Either before at bytes
behind-skip before at bytes n x (inl h) = inl (record { tokens = h.tokens; end = h.end; reads = skips n x h.reads; short = h.short; few = h.few })
behind-skip before at bytes n x (inr h) = inr (record { rule = h.rule; place = h.place; stops = after_skip n x h.stops })

behind-token : (before : ℕ) (at : Place) (bytes : List ℕ) (kind : Kind) (n : ℕ) → front bytes ≡ f.Token kind n → passed before (token_of kind (take n bytes)) ≡ None
    → Behind (before + 1) at bytes n → Either before at bytes
behind-token before at bytes kind n x none (inl h) =
    let t : Placed = record { token = token_of kind (take n bytes); place = at } in
    inl (record {
      tokens = t ∷ h.tokens;
      end = h.end;
      reads = takes kind n x h.reads;
      short = All-cons IsShort t h.tokens (within before (token_of kind (take n bytes)) none).0 h.short;
      few = omega (arith, h.few);
    })
behind-token before at bytes kind n x none (inr h) = inr (record { rule = h.rule; place = h.place; stops = after_token kind n x none h.stops })

abbrev pub Further : Place → List ℕ → Type 0
Further at bytes = (n more : ℕ) → 1 ≤ n → n ≤ length bytes → more ≤ 1000000 → Behind more at bytes n

at-token : (before : ℕ) (at : Place) (bytes : List ℕ) (kind : Kind) (n : ℕ) (o : Option Rule) → front bytes ≡ f.Token kind n → passed before (token_of kind (take n bytes)) ≡ o → 1 ≤ n → n ≤ length bytes
    → Further at bytes → Either before at bytes
at-token before at bytes kind n (Some r) x p some in_bytes further = inr (record { rule = r; place = at; stops = passes kind n x p })
at-token before at bytes kind n None x p some in_bytes further =
    let few : before < 1000000 = (within before (token_of kind (take n bytes)) p).1 in
    behind-token before at bytes kind n x p (further n (before + 1) some in_bytes (omega arith))

at-front : (before : ℕ) (at : Place) (bytes : List ℕ) (x : Front) → front bytes ≡ x → IsWithin x bytes → before ≤ 1000000 → Further at bytes → Either before at bytes
at-front before at bytes f.End x w few further = inl (record { tokens = []; end = at; reads = ends x; short = All-nil IsShort; few = omega arith })
at-front before at bytes (f.Skip n) x w few further = behind-skip before at bytes n x (further n before w.0 w.1 few)
at-front before at bytes (f.Token kind n) x w few further =
    let some : 1 ≤ n = omega (arith, w.0, least-some kind) in
    at-token before at bytes kind n (passed before (token_of kind (take n bytes))) x refl some w.1 further
at-front before at bytes f.Bad x w few further = inr (record { rule = S1; place = at; stops = breaks x })

either-by : (fuel before : ℕ) (at : Place) (bytes : List ℕ) → length bytes ≤ fuel → before ≤ 1000000 → Either before at bytes
either-by zero before at bytes h few = at-front before at bytes (front bytes) refl (front-within bytes) few (λ n more some in_bytes less. absurd (omega arith))
either-by (suc fuel) before at bytes h few =
    at-front before at bytes (front bytes) refl (front-within bytes) few
    (λ n more some in_bytes less. let left : length (drop n bytes) ≡ length bytes - n = length-drop n bytes in either-by fuel more (place_behind at (take n bytes)) (drop n bytes) (omega arith) less)

pub either : (before : ℕ) (at : Place) (bytes : List ℕ) → before ≤ 1000000 → Either before at bytes
either before at bytes few = either-by (length bytes) before at bytes (omega arith) few

pub one-of : (before : ℕ) (at : Place) (bytes : List ℕ) → HasTokens before at bytes → HasBreach before at bytes → ⊥
one-of before at bytes h b = not-both h.reads before b.rule b.place h.short h.few b.stops

pub no_refusal : (e : FrontErr) (at : Place) (bytes : List ℕ) → IfRefused e (λ rule place. Stops 0 at bytes rule place) → HasTokens 0 at bytes → e ≡ NoMemory
no_refusal (Refused r) at bytes s h = absurd (one-of 0 at bytes h (record { rule = r.rule; place = r.place; stops = s.0 }))
no_refusal NoMemory at bytes s h = refl
