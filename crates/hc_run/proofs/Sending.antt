-- Text that is being sent, piece by piece.
use Rattle.std.specs.Prelude.{◌≡◌, ◌++◌, ℕ, List, [], Result, refl, OnOk, IfErr}
use Rattle.std.specs.Result.{IsErr, IsErrAnd}
use Rattle.std.proofs.Common.{sym, ◌∙◌, ap, append_assoc, subst}
use Rattle.std.proofs.lemmas.List.{append-nil}
use Rattle.std.proofs.lemmas.Result.{err_from_is_err_and, on_ok_weaker, IfErr-weaker}
use Rattle.hc_outside.specs.declared.errors.WriteErr.{WriteErr}
use Rattle.hc_outside.specs.declared.errors.WriteErr.TheVariants.{NoMemory}
use Rattle.hc_outside.specs.Sink.{SinkState, Wrote, WroteFront}
use Rattle.hc_outside.specs.SinkLemmas.{Wrote-none, Wrote-more, WroteFront-none, WroteFront-first, WroteFront-more, HasRisen-later}
use Rattle.hc_run.specs.Sent.{Sent, Stopped}

pub Sent-none : (before : List ℕ) (s : SinkState) → Sent [] before before s s
Sent-none before s = record { gone = []; parts = sym (append-nil before); wrote = Wrote-none s }

pub Sent-more : {a b before mid after : List ℕ} {x y z : SinkState} → Sent a before mid x y → Sent b mid after y z → Sent (a ++ b) before after x z
Sent-more {a} {b} {before} {mid} {after} first second = record {
  gone = first.gone ++ second.gone;
  parts =
      append_assoc first.gone second.gone after ∙ ap (λ t. first.gone ++ t) second.parts ∙ sym (append_assoc first.gone mid b)
      ∙ ap (λ t. t ++ b) first.parts ∙ append_assoc before a b;
  wrote = Wrote-more first.wrote second.wrote;
}

-- what was in the buffer already counts as sent from there on
pub Sent-after_push : {a before after : List ℕ} {x y : SinkState} → Sent [] (before ++ a) after x y → Sent a before after x y
Sent-after_push {a} {before} h = record { gone = h.gone; parts = h.parts ∙ append-nil (before ++ a); wrote = h.wrote }

pub Sent-at : {a b before after : List ℕ} {x y : SinkState} → a ≡ b → Sent a before after x y → Sent b before after x y
Sent-at {before = before} {after = after} {x = x} {y = y} is h = subst (λ t. Sent t before after x y) is h

-- what stopped in a stopped in what begins with a
pub Stopped-first : (before a b : List ℕ) {e : WriteErr} {x y : SinkState} → Stopped (before ++ a) e x y → Stopped (before ++ (a ++ b)) e x y
Stopped-first before a b {e} {x} {y} h = record {
  front = subst (λ t. WroteFront t x y) (append_assoc before a b) (WroteFront-first b h.front);
  fault = h.fault;
  sure = h.sure;
}

pub Stopped-at : (before : List ℕ) {a b : List ℕ} {e : WriteErr} {x y : SinkState} → a ≡ b → Stopped (before ++ a) e x y → Stopped (before ++ b) e x y
Stopped-at before {e = e} {x = x} {y = y} is h = subst (λ t. Stopped (before ++ t) e x y) is h

-- a was sent, and then it stopped in b
pub Stopped-more : {a before mid : List ℕ} (b : List ℕ) {e : WriteErr} {x y z : SinkState} → Sent a before mid x y → Stopped (mid ++ b) e y z → Stopped (before ++ (a ++ b)) e x z
Stopped-more {a} {before} {mid} b {e} {x} {y} {z} first h = record {
  front = subst (λ t. WroteFront t x z)
      (sym (append_assoc first.gone mid b) ∙ ap (λ t. t ++ b) first.parts ∙ append_assoc before a b)
      (WroteFront-more first.wrote h.front);
  fault = λ is. HasRisen-later first.wrote.faults.no_less (h.fault is);
  sure = λ is. sym first.wrote.sure ∙ h.sure is;
}

-- it stopped before b for want of memory
pub Stopped-memory : {a before mid : List ℕ} (b : List ℕ) {x y : SinkState} → Sent a before mid x y → Stopped (before ++ (a ++ b)) NoMemory x y
Stopped-memory b {y = y} first = Stopped-more b first (record { front = WroteFront-none _ y; fault = λ is. absurd cc; sure = λ is. absurd cc })

-- all of this but the rest was sent
pub record IsSending (all rest before after : List ℕ) (old new : SinkState) : Type 0 where
  pub done : List ℕ
  pub parts : done ++ rest ≡ all
  pub sent : Sent done before after old new

pub IsSending-start : (all before : List ℕ) (s : SinkState) → IsSending all all before before s s
IsSending-start all before s = record { done = []; parts = refl; sent = Sent-none before s }

pub IsSending-start_at : (all rest before : List ℕ) (s : SinkState) → rest ≡ all → IsSending all rest before before s s
IsSending-start_at all rest before s is = record { done = []; parts = is; sent = Sent-none before s }

-- a piece more, which went into the buffer first
pub IsSending-more : {all rest before mid pushed after : List ℕ} (a others : List ℕ) {x y z : SinkState}
    → IsSending all rest before mid x y → rest ≡ a ++ others → pushed ≡ mid ++ a → Sent [] pushed after y z → IsSending all others before after x z
IsSending-more {mid = mid} {after = after} a others {y = y} {z = z} h is pushed sent = record {
  done = h.done ++ a;
  parts = append_assoc h.done a others ∙ ap (λ t. h.done ++ t) (sym is) ∙ h.parts;
  sent = Sent-more h.sent (Sent-after_push (subst (λ t. Sent [] t after y z) pushed sent));
}

-- a piece more, which a call sent
pub IsSending-sent : {all rest before mid after : List ℕ} (a others : List ℕ) {x y z : SinkState}
    → IsSending all rest before mid x y → rest ≡ a ++ others → Sent a mid after y z → IsSending all others before after x z
IsSending-sent a others h is sent = record {
  done = h.done ++ a;
  parts = append_assoc h.done a others ∙ ap (λ t. h.done ++ t) (sym is) ∙ h.parts;
  sent = Sent-more h.sent sent;
}

-- it stopped in a piece
pub IsSending-stopped : {all rest before mid : List ℕ} (a others : List ℕ) {e : WriteErr} {x y z : SinkState}
    → IsSending all rest before mid x y → rest ≡ a ++ others → Stopped (mid ++ a) e y z → Stopped (before ++ all) e x z
IsSending-stopped {all} {rest} {before} {mid} a others {e} {x} {y} {z} h is stopped =
    subst (λ t. Stopped (before ++ t) e x z) (ap (λ t. h.done ++ t) (sym is) ∙ h.parts) (Stopped-more _ h.sent (Stopped-first mid a others stopped))

-- the same at the exit of a `?`
pub IsSending-exit : {all rest before mid : List ℕ} (a others : List ℕ) {e : WriteErr} {x y z : SinkState} (r : Result (Unit {0}) WriteErr)
    → IsErr r × IsErrAnd r (λ d. d ≡ e)
    → IsSending all rest before mid x y → rest ≡ a ++ others → Stopped (mid ++ a) e y z → IfErr r (λ d. Stopped (before ++ all) d x z)
IsSending-exit a others r from h is stopped = let p = err_from_is_err_and r from.1 in rw (p.1, p.2) (IsSending-stopped a others h is stopped)

-- the same where the piece went into the buffer first
pub IsSending-pushed_exit : {all rest before mid pushed : List ℕ} (a others : List ℕ) {e : WriteErr} {x y z : SinkState} (r : Result (Unit {0}) WriteErr)
    → IsErr r × IsErrAnd r (λ d. d ≡ e)
    → IsSending all rest before mid x y → rest ≡ a ++ others → pushed ≡ mid ++ a → Stopped pushed e y z → IfErr r (λ d. Stopped (before ++ all) d x z)
IsSending-pushed_exit a others {e} {y = y} {z = z} r from h is pushed stopped =
    IsSending-exit a others r from h is (subst (λ t. Stopped t e y z) pushed stopped)

-- it stopped before the piece for want of memory
pub IsSending-memory : {all rest before after : List ℕ} {x y : SinkState} → IsSending all rest before after x y → Stopped (before ++ all) NoMemory x y
IsSending-memory {all} {rest} {before} {after} {x} {y} h =
    subst (λ t. Stopped (before ++ t) NoMemory x y) h.parts (Stopped-memory rest h.sent)

-- ---- Three pieces, one call after the other

pub exit_in_first : (before : List ℕ) {piece : List ℕ} (a b c : List ℕ) {e : WriteErr} {x y : SinkState} (r : Result (Unit {0}) WriteErr) → IsErr r × IsErrAnd r (λ d. d ≡ e)
    → piece ≡ a → Stopped (before ++ piece) e x y → IfErr r (λ d. Stopped (before ++ (a ++ b ++ c)) d x y)
exit_in_first before a b c r from is h =
    let p = err_from_is_err_and r from.1 in
    rw (p.1, p.2) (Stopped-first before (a ++ b) c (Stopped-first before a b (Stopped-at before is h)))

pub exit_in_second : {before mid a : List ℕ} (b c : List ℕ) {e : WriteErr} {x y z : SinkState} (r : Result (Unit {0}) WriteErr) → IsErr r × IsErrAnd r (λ d. d ≡ e)
    → Sent a before mid x y → Stopped (mid ++ b) e y z → IfErr r (λ d. Stopped (before ++ (a ++ b ++ c)) d x z)
exit_in_second {before} {mid} {a} b c r from first h =
    let p = err_from_is_err_and r from.1 in rw (p.1, p.2) (Stopped-first before (a ++ b) c (Stopped-more b first h))

pub ok_of_third : {before mid next a b piece : List ℕ} (after c : List ℕ) {x y z : SinkState} (w : SinkState) (r : Result (Unit {0}) WriteErr) → piece ≡ c
    → Sent a before mid x y → Sent b mid next y z → OnOk r (Sent piece next after z w) → OnOk r (Sent (a ++ b ++ c) before after x w)
ok_of_third {next = next} {piece = piece} after c {z = z} w r is first second h =
    on_ok_weaker r (λ s. Sent-more (Sent-more first second) (subst (λ t. Sent t next after z w) is s)) h

pub err_of_third : {before mid next a b piece : List ℕ} (c : List ℕ) {x y z : SinkState} (w : SinkState) (r : Result (Unit {0}) WriteErr) → piece ≡ c
    → Sent a before mid x y → Sent b mid next y z → IfErr r (λ e. Stopped (next ++ piece) e z w) → IfErr r (λ e. Stopped (before ++ (a ++ b ++ c)) e x w)
err_of_third {next = next} {piece = piece} c {z = z} w r is first second h =
    IfErr-weaker r _ _ (λ e s. Stopped-more c (Sent-more first second) (subst (λ t. Stopped (next ++ t) e z w) is s)) h

-- ---- Two pieces

pub exit_in_first_of_two : (before : List ℕ) {piece : List ℕ} (a b : List ℕ) {e : WriteErr} {x y : SinkState} (r : Result (Unit {0}) WriteErr) → IsErr r × IsErrAnd r (λ d. d ≡ e)
    → piece ≡ a → Stopped (before ++ piece) e x y → IfErr r (λ d. Stopped (before ++ (a ++ b)) d x y)
exit_in_first_of_two before a b r from is h = let p = err_from_is_err_and r from.1 in rw (p.1, p.2) (Stopped-first before a b (Stopped-at before is h))

pub ok_of_second : {before mid a : List ℕ} (b after : List ℕ) {x y : SinkState} (z : SinkState) (r : Result (Unit {0}) WriteErr)
    → Sent a before mid x y → OnOk r (Sent b mid after y z) → OnOk r (Sent (a ++ b) before after x z)
ok_of_second b after z r first h = on_ok_weaker r (λ s. Sent-more first s) h

pub err_of_second : {before mid a : List ℕ} (b : List ℕ) {x y : SinkState} (z : SinkState) (r : Result (Unit {0}) WriteErr)
    → Sent a before mid x y → IfErr r (λ e. Stopped (mid ++ b) e y z) → IfErr r (λ e. Stopped (before ++ (a ++ b)) e x z)
err_of_second b z r first h = IfErr-weaker r _ _ (λ e s. Stopped-more b first s) h

-- the same for all the bytes that another list is
pub ok_at : {a b : List ℕ} (before after : List ℕ) (x y : SinkState) (r : Result (Unit {0}) WriteErr) → a ≡ b → OnOk r (Sent a before after x y) → OnOk r (Sent b before after x y)
ok_at before after x y r is h = on_ok_weaker r (Sent-at is) h

pub err_at : {a b : List ℕ} (before : List ℕ) (x y : SinkState) (r : Result (Unit {0}) WriteErr) → a ≡ b → IfErr r (λ e. Stopped (before ++ a) e x y) → IfErr r (λ e. Stopped (before ++ b) e x y)
err_at before x y r is h = IfErr-weaker r _ _ (λ e s. Stopped-at before is s) h

-- ---- What waits is written at the end

pub Wrote-rest : {bytes before rest piece : List ℕ} {x y z : SinkState} → before ≡ [] → piece ≡ rest → Sent bytes before rest x y → Wrote piece y z → Wrote bytes x z
Wrote-rest {bytes} {x = x} {y = y} {z = z} none same sent wrote =
    subst (λ t. Wrote t x z) (sent.parts ∙ ap (λ t. t ++ bytes) none) (Wrote-more sent.wrote (subst (λ t. Wrote t y z) same wrote))

pub WroteFront-rest : {bytes before rest piece : List ℕ} {x y z : SinkState} → before ≡ [] → piece ≡ rest → Sent bytes before rest x y → WroteFront piece y z → WroteFront bytes x z
WroteFront-rest {bytes} {x = x} {y = y} {z = z} none same sent front =
    subst (λ t. WroteFront t x z) (sent.parts ∙ ap (λ t. t ++ bytes) none) (WroteFront-more sent.wrote (subst (λ t. WroteFront t y z) same front))
