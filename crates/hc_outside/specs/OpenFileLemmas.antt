-- What a write to an open file is for its store, and back.
use Rattle.std.specs.Prelude.{◌≡◌, ◌++◌, ℕ, Bool, true, List, [], Option, Some, None, is_some, unwrap_or, refl, IfSome, IsSome}
use Rattle.std.proofs.Common.{sym, ◌∙◌, ap, subst, append_assoc}
use Rattle.std.specs.Option.{option_map}
use Rattle.std.specs.FinMap.{get, insert, remove}
use Rattle.hc_outside.specs.Store.{Files, Disk, StoreState, open_bytes, bytes_under, appended, Appended, AppendedFront, Created, Closed, Saved, created, closed, saved, SameFiles, MovesWrites, IsSound, IsSoundDisk}
use Rattle.hc_outside.specs.Sink.{Lent, Wrote, WroteFront}
use Rattle.hc_outside.specs.OpenFile.{others, over, files_but}
use Rattle.hc_outside.specs.FilesLemmas.{get-insert_same, insert-insert, remove-insert, same_but}
use Rattle.hc_outside.specs.SinkLemmas.{Wrote-none}

-- the parts of a disk after an append
bytes-appended : (files : Files) (name : Option (List ℕ)) (bytes : List ℕ) → is_some name ≡ true
    → open_bytes (appended bytes (record { files = files; open_name = name })) ≡ open_bytes (record { files = files; open_name = name }) ++ bytes
bytes-appended files None bytes h = absurd cc
bytes-appended files (Some name) bytes h = ap (λ o. unwrap_or o []) (get-insert_same files name _)

others-appended : (files : Files) (name : Option (List ℕ)) (bytes : List ℕ)
    → others (appended bytes (record { files = files; open_name = name })) ≡ others (record { files = files; open_name = name })
others-appended files None bytes = refl
others-appended files (Some name) bytes = ap (λ (m : Files). (m, Some name)) (remove-insert files name _)

text-appended : (disk : Option Disk) (bytes : List ℕ) → IfSome disk (IsSoundDisk true)
    → option_map open_bytes (option_map (appended bytes) disk) ≡ option_map (λ t. t ++ bytes) (option_map open_bytes disk)
text-appended None bytes h = refl
text-appended (Some d) bytes h = ap Some (bytes-appended d.files d.open_name bytes h.named)

rest-appended : (disk : Option Disk) (bytes : List ℕ) → option_map others (option_map (appended bytes) disk) ≡ option_map others disk
rest-appended None bytes = refl
rest-appended (Some d) bytes = ap Some (others-appended d.files d.open_name bytes)

sound_open : (s : StoreState) → IsSound s → s.is_open ≡ true → IfSome s.disk (IsSoundDisk true)
sound_open s sound open_now = subst (λ (b : Bool). IfSome s.disk (IsSoundDisk b)) open_now sound.disk

-- an append to the open file is a write of the sink over it
pub over-Appended : {bytes : List ℕ} {old new : StoreState} (loan : ℕ) → IsSound old → old.is_open ≡ true
    → Appended bytes old new → MovesWrites old new → Wrote bytes (over loan old) (over loan new)
over-Appended {bytes} {old} {new} loan sound open_now h moves = record {
  text = ap (option_map open_bytes) h.disk ∙ text-appended old.disk bytes (sound_open old sound open_now);
  faults = moves.writes;
  ready = h.is_open;
  sure = moves.sure;
  rest = let e : option_map others new.disk ≡ option_map others old.disk = ap (option_map others) h.disk ∙ rest-appended old.disk bytes in
      λ i. Some (record { loan = loan; others = e i; reads = moves.reads i });
}

-- and so is a failed one, which writes nothing
pub over-SameFiles : {old new : StoreState} (loan : ℕ) → SameFiles old new → MovesWrites old new → Wrote [] (over loan old) (over loan new)
over-SameFiles {old} {new} loan h moves = record {
  text = ap (option_map open_bytes) h.disk ∙ (Wrote-none (over loan old)).text;
  faults = moves.writes;
  ready = h.is_open;
  sure = moves.sure;
  rest = λ i. Some (record { loan = loan; others = option_map others (h.disk i); reads = moves.reads i });
}

-- Back again: from what is known of the sink to what is known of the store.

some_itself : (o : Option (List ℕ)) → IsSome o → o ≡ Some (unwrap_or o [])
some_itself None h = absurd cc
some_itself (Some x) h = refl

disk-appended : (bytes : List ℕ) (df ef : Files) (dn en : Option (List ℕ)) → en ≡ dn
    → files_but ef en ≡ files_but df dn
    → bytes_under ef en ≡ bytes_under df dn ++ bytes
    → IfSome en (λ name. IsSome (get ef name))
    → ◌≡◌ {A = Disk} (record { files = ef; open_name = en }) (appended bytes (record { files = df; open_name = dn }))
disk-appended bytes df ef None None is but under there = λ i. record { files = but i; open_name = None }
disk-appended bytes df ef None (Some q) is but under there = absurd cc
disk-appended bytes df ef (Some name) None is but under there = absurd cc
disk-appended bytes df ef (Some name) (Some q) is but under there =
    let same : q ≡ name = cc in
    let there' : get ef name ≡ Some (unwrap_or (get ef name) []) = some_itself _ (rw (← same) there) in
    let but' : remove ef name ≡ remove df name = rw same at but in
    let under' : unwrap_or (get ef name) [] ≡ unwrap_or (get df name) [] ++ bytes = rw same at under in
    let files : ef ≡ insert df name (unwrap_or (get df name) [] ++ bytes) = same_but df ef name _ but' (there' ∙ ap Some under') in
    λ i. record { files = files i; open_name = is i }

disks-appended : (bytes : List ℕ) (is_open : Bool) (old new : Option Disk) → IfSome new (IsSoundDisk is_open)
    → option_map open_bytes new ≡ option_map (λ t. t ++ bytes) (option_map open_bytes old)
    → option_map others new ≡ option_map others old
    → new ≡ option_map (appended bytes) old
disks-appended bytes is_open None None sound text rest = refl
disks-appended bytes is_open None (Some e) sound text rest = absurd cc
disks-appended bytes is_open (Some d) None sound text rest = absurd cc
disks-appended bytes is_open (Some d) (Some e) sound text rest =
    let text' : open_bytes e ≡ open_bytes d ++ bytes = cc in
    let rest' : others e ≡ others d = cc in
    ap Some (disk-appended bytes d.files e.files d.open_name e.open_name (ap (λ (r : Files × Option (List ℕ)). r.1) rest') (ap (λ (r : Files × Option (List ℕ)). r.0) rest') text' sound.there)

lent_of : Lent → Option Lent → Lent
lent_of l None = l
lent_of l (Some x) = x

is_some-others : (disk : Option Disk) → is_some (option_map others disk) ≡ is_some disk
is_some-others None = refl
is_some-others (Some d) = refl

same_lent : (bytes : List ℕ) (loan loan' : ℕ) (old new : StoreState) → Wrote bytes (over loan old) (over loan' new)
    → ◌≡◌ {A = Lent} (record { loan = loan'; others = option_map others new.disk; reads = new.reads }) (record { loan = loan; others = option_map others old.disk; reads = old.reads })
unfolding lent_of
same_lent bytes loan loan' old new h = ap (lent_of (record { loan = loan; others = None; reads = 0 })) h.rest

-- it is the same loan of the store
pub loan-over : (bytes : List ℕ) (loan loan' : ℕ) (old new : StoreState) → Wrote bytes (over loan old) (over loan' new) → loan' ≡ loan
loan-over bytes loan loan' old new h = ap (λ (l : Lent). l.loan) (same_lent bytes loan loan' old new h)

-- and the store's open file has grown by what was written
pub Appended-over : (bytes : List ℕ) (loan loan' : ℕ) (old new : StoreState) → IsSound new → Wrote bytes (over loan old) (over loan' new) → Appended bytes old new
Appended-over bytes loan loan' old new sound h =
    let same = same_lent bytes loan loan' old new h in
    record {
      disk = disks-appended bytes new.is_open old.disk new.disk sound.disk h.text (ap (λ (l : Lent). l.others) same);
      is_open = h.ready;
    }

-- of its counts only that of write faults has moved
pub MovesWrites-over : (bytes : List ℕ) (loan loan' : ℕ) (old new : StoreState) → Wrote bytes (over loan old) (over loan' new) → MovesWrites old new
MovesWrites-over bytes loan loan' old new h =
    let same = same_lent bytes loan loan' old new h in
    record {
      told = sym (is_some-others new.disk) ∙ ap (λ (l : Lent). is_some l.others) same ∙ is_some-others old.disk;
      sure = h.sure;
      reads = ap (λ (l : Lent). l.reads) same;
      writes = h.faults;
    }

-- What a caller sees who lends a store `old` to a sink over its open file, and has the store `new` back. The premises
-- are as the check has them: that the sink took the store, and that the store is what the sink left of it.
pub appended_lent : {X : Type 0} (state : X → StoreState) (bytes : List ℕ) (loan loan₁ loan₂ : ℕ) (old before after new : X)
    → IsSound (state new) → loan₁ ≡ loan → before ≡ old → (loan ≡ loan₂ → new ≡ after)
    → Wrote bytes (over loan₁ (state before)) (over loan₂ (state after))
    → Appended bytes (state old) (state new)
appended_lent state bytes loan loan₁ loan₂ old before after new sound same_loan same_store back h =
    let e : new ≡ after = back (sym (loan-over bytes loan₁ loan₂ (state before) (state after) h ∙ same_loan)) in
    let sound' : IsSound (state after) = rw (← e) sound in
    rw (e, ← same_store) (Appended-over bytes loan₁ loan₂ (state before) (state after) sound' h)

-- the same where only a front part was written
pub appended_front_lent : {X : Type 0} (state : X → StoreState) (bytes : List ℕ) (loan loan₁ loan₂ : ℕ) (old before after new : X)
    → IsSound (state new) → loan₁ ≡ loan → before ≡ old → (loan ≡ loan₂ → new ≡ after)
    → WroteFront bytes (over loan₁ (state before)) (over loan₂ (state after))
    → AppendedFront bytes (state old) (state new)
appended_front_lent state bytes loan loan₁ loan₂ old before after new sound same_loan same_store back h = record {
  front = h.front;
  back = h.back;
  parts = h.parts;
  appended = appended_lent state h.front loan loan₁ loan₂ old before after new sound same_loan same_store back h.wrote;
}

appended-more : (a b : List ℕ) (files : Files) (name : Option (List ℕ)) → ◌≡◌ {A = Disk}
    (appended b (appended a (record { files = files; open_name = name }))) (appended (a ++ b) (record { files = files; open_name = name }))
appended-more a b files None = refl
appended-more a b files (Some n) =
    let held = unwrap_or (get files n) [] in
    let read : unwrap_or (get (insert files n (held ++ a)) n) [] ≡ held ++ a = ap (λ o. unwrap_or o []) (get-insert_same files n (held ++ a)) in
    let e : insert (insert files n (held ++ a)) n (unwrap_or (get (insert files n (held ++ a)) n) [] ++ b) ≡ insert files n (held ++ (a ++ b)) =
    insert-insert files n (held ++ a) _ ∙ ap (λ t. insert files n (t ++ b)) read ∙ ap (insert files n) (append_assoc held a b) in
    λ i. record { files = e i; open_name = Some n }

disks-more : (a b : List ℕ) (disk : Option Disk) → option_map (appended b) (option_map (appended a) disk) ≡ option_map (appended (a ++ b)) disk
disks-more a b None = refl
disks-more a b (Some d) = ap Some (appended-more a b d.files d.open_name)

-- a and then b
pub Appended-more : {a b : List ℕ} {x y z : StoreState} → Appended a x y → Appended b y z → Appended (a ++ b) x z
Appended-more {a} {b} {x} first second = record {
  disk = second.disk ∙ ap (option_map (appended b)) first.disk ∙ disks-more a b x.disk;
  is_open = second.is_open ∙ first.is_open;
}

disks-saved : (name bytes : List ℕ) (disk : Option Disk) → option_map closed (option_map (appended bytes) (option_map (created name) disk)) ≡ option_map (saved name bytes) disk
disks-saved name bytes None = refl
disks-saved name bytes (Some d) =
    let read : unwrap_or (get (insert d.files name []) name) [] ≡ [] = ap (λ o. unwrap_or o []) (get-insert_same d.files name []) in
    let e : insert (insert d.files name []) name (unwrap_or (get (insert d.files name []) name) [] ++ bytes) ≡ insert d.files name bytes =
    insert-insert d.files name [] _ ∙ ap (λ t. insert d.files name (t ++ bytes)) read in
    ap {A = Disk} Some (λ i. record { files = e i; open_name = None })

-- a file that was made, written and closed holds what was written
pub saved_by : {name bytes : List ℕ} {a b c d : StoreState} → Created name a b → Appended bytes b c → Closed c d → Saved name bytes a d
saved_by {name} {bytes} {a} made written done = record {
  disk = done.disk ∙ ap (option_map closed) written.disk ∙ ap (λ o. option_map closed (option_map (appended bytes) o)) made.disk ∙ disks-saved name bytes a.disk;
  is_open = done.is_open;
}
