-- What is known when the tokens before a place are read.
use Rattle.std.proofs.Common.{◌≡◌, ◌∙◌, ℕ, ◌+◌, ◌-◌, ◌≤◌, List, [], ◌∷◌, ◌++◌, length, take, drop, Some, None, refl, arith, append_assoc, length-append}
use Rattle.std.proofs.lemmas.List.{append-nil, length-take-le, length-drop}
use Rattle.std.specs.List.{All}
use Rattle.std.proofs.lemmas.List.Elements.{All-nil, All-push}
use Rattle.hc_tree.specs.declared.place.Place.{Place}
use Rattle.hc_tree.specs.declared.refusal.Rule.{Rule}
use Rattle.hc_tree.specs.declared.refusal.Rule.TheVariants.{S1}
use Rattle.hc_tree.specs.declared.refusal.FrontErr.{FrontErr}
use Rattle.hc_tree.specs.declared.refusal.FrontErr.TheVariants.{Refused, NoMemory}
use Rattle.hc_lex.specs.Front.{front}
use Rattle.hc_lex.specs.Place.{start, place_behind, HasRoom, IsBehind}
use Rattle.hc_lex.specs.Lexes.{Lexes, ends, skips, takes, Stops, breaks, passes, after_skip, after_token, IsShort, IfRefused, passed, token_of}
use Rattle.hc_lex.specs.declared.front.Kind.{Kind}
use Rattle.hc_lex.specs.declared.front.Front.TheVariants as f
use Rattle.hc_lex.specs.declared.token.Placed.{Placed}
use Rattle.hc_lex.proofs.Readings.{within}

pub record Reached (all : List ℕ) (at : Place) (rest : List ℕ) (list : List Placed) : Type 0 where
  pub reads : (ts : List Placed) (end : Place) → Lexes at rest ts end → Lexes start all (list ++ ts) end
  pub stops : (rule : Rule) (place : Place) → Stops (length list) at rest rule place → Stops 0 start all rule place
  pub short : All IsShort list
  pub few : length list ≤ 1000000
  pub room : HasRoom at (length rest)

pub reached-none : (all : List ℕ) (at : Place) (list : List Placed) → at ≡ start → list ≡ [] → HasRoom at (length all) → Reached all at all list
reached-none all at list e f room = rw (e, f) (record {
  reads = λ ts end d. d;
  stops = λ rule place d. d;
  short = All-nil IsShort;
  few = omega arith;
  room = rw e at room;
})

room-behind : (at to : Place) (n : ℕ) (rest z : List ℕ) → z ≡ drop n rest → n ≤ length rest → HasRoom at (length rest) → IsBehind at to (length (take n rest))
    → HasRoom to (length z)
room-behind at to n rest z e h room near =
    let taken : length (take n rest) ≡ n = length-take-le n rest h in
    let left : length z ≡ length rest - n = rw e (length-drop n rest) in
    record { line = near.line; column = near.column; room = omega (arith, taken, left, near.near, room.room) }

pub reached-skip : (all : List ℕ) (at : Place) (rest : List ℕ) (list : List Placed) (n : ℕ) (to : Place) (z : List ℕ) → Reached all at rest list → front rest ≡ f.Skip n → to ≡ place_behind at (take n rest) → z ≡ drop n rest
    → n ≤ length rest → IsBehind at to (length (take n rest)) → Reached all to z list
reached-skip all at rest list n to z r x e g h near = record {
  reads = λ ts end d. r.reads ts end (skips n x (rw (← e, ← g) d));
  stops = λ rule place d. r.stops rule place (after_skip n x (rw (← e, ← g) d));
  short = r.short;
  few = r.few;
  room = room-behind at to n rest z g h r.room near;
}

pub reached-token : (all : List ℕ) (at : Place) (rest : List ℕ) (list more : List Placed) (t : Placed) (k : Kind) (n : ℕ) (to : Place) (z : List ℕ) → Reached all at rest list
    → front rest ≡ f.Token k n → t ≡ record { token = token_of k (take n rest); place = at } → passed (length list) (token_of k (take n rest)) ≡ None → more ≡ list ++ t ∷ []
    → to ≡ place_behind at (take n rest) → z ≡ drop n rest → n ≤ length rest → IsBehind at to (length (take n rest)) → Reached all to z more
reached-token all at rest list more t k n to z r x is none m e g h near =
    let s = within (length list) (token_of k (take n rest)) none in
    let len : length more ≡ length list + 1 = rw m (length-append list (t ∷ []) ∙ refl) in
    record {
      reads = λ ts end d.
          let u : Lexes start all (list ++ record { token = token_of k (take n rest); place = at } ∷ ts) end = r.reads (record { token = token_of k (take n rest); place = at } ∷ ts) end (takes k n x (rw (← e, ← g) d)) in
          rw (m, append_assoc, is) u;
      stops = λ rule place d. r.stops rule place (after_token k n x none (rw (← e, ← g, ← len) d));
      short = rw m (All-push IsShort list t r.short (rw is s.0));
      few = omega (arith, len, s.1);
      room = room-behind at to n rest z g h r.room near;
    }

pub refusal-map : (e : FrontErr) (p q : Rule → Place → Type 0) → ((rule : Rule) (place : Place) → p rule place → q rule place) → IfRefused e p → IfRefused e q
refusal-map (Refused r) p q f h = (f r.rule r.place h.0, h.1)
refusal-map NoMemory p q f h = h

pub reached-end : (all : List ℕ) (at : Place) (rest : List ℕ) (list : List Placed) → Reached all at rest list → front rest ≡ f.End → Lexes start all list at
reached-end all at rest list r x = rw (append-nil list) at (r.reads [] at (ends x))

pub stopped : (e : FrontErr) (all : List ℕ) (at : Place) (rest : List ℕ) (list : List Placed) (k : Kind) (n : ℕ) (before : ℕ) → Reached all at rest list → front rest ≡ f.Token k n → before ≡ length list
    → IfRefused e (λ rule place. (passed before (token_of k (take n rest)) ≡ Some rule) × (place ≡ at)) → IfRefused e (λ rule place. Stops 0 start all rule place)
stopped e all at rest list k n before r x len h =
    refusal-map e (λ rule place. (passed before (token_of k (take n rest)) ≡ Some rule) × (place ≡ at)) (λ rule place. Stops 0 start all rule place)
    (λ rule place h. rw h.1 (r.stops rule at (passes k n x (rw (← len) h.0)))) h

pub bad : (e : FrontErr) (all : List ℕ) (at : Place) (rest : List ℕ) (list : List Placed) → Reached all at rest list → front rest ≡ f.Bad
    → IfRefused e (λ rule place. (rule ≡ S1) × (place ≡ at)) → IfRefused e (λ rule place. Stops 0 start all rule place)
bad e all at rest list r x h =
    refusal-map e (λ rule place. (rule ≡ S1) × (place ≡ at)) (λ rule place. Stops 0 start all rule place)
    (λ rule place h. rw (h.0, h.1) (r.stops S1 at (breaks x))) h
