-- The disk of a `MemStore` after its files have changed.
use Rattle.std.specs.Prelude.{Result, Ok, Err, OnOk, OnErr, ◌≡◌, ◌++◌, ℕ, true, List, [], Option, Some, None, refl, unwrap_or}
use Rattle.std.proofs.Common.{sym, ◌∙◌, ap}
use Rattle.std.specs.Option.{option_map, ForSome}
use Rattle.std.specs.FinMap.{insert, from_entries, get}
use Rattle.hc_outside.specs.Store.{Files, Disk, created, appended}
use Rattle.hc_outside.specs.MemFiles.{File, name_at, bytes_at, names, is_place, disk_of, Sets, name_at-place, get-place}

-- the open file stands at a place of its own
abbrev pub IsOpened : List File → Option ℕ → Type 0
IsOpened files place = ForSome place (λ i. is_place i (name_at files i) (names files) ≡ true)

-- a file that has a place keeps it, and its name
pub name_at-Sets : (name bytes : List ℕ) (old new : List File) (i : ℕ) → Sets name bytes old new → is_place i (name_at old i) (names old) ≡ true → name_at new i ≡ name_at old i
name_at-Sets name bytes old new i h p = name_at-place i (name_at old i) new (h.places i (name_at old i) p)

pub own_place-Sets : (name bytes : List ℕ) (old new : List File) (i : ℕ) → Sets name bytes old new → is_place i (name_at old i) (names old) ≡ true → is_place i (name_at new i) (names new) ≡ true
own_place-Sets name bytes old new i h p = rw (name_at-Sets name bytes old new i h p) (h.places i (name_at old i) p)

pub IsOpened-Sets : (name bytes : List ℕ) (old new : List File) (place : Option ℕ) → Sets name bytes old new → IsOpened old place → IsOpened new place
IsOpened-Sets name bytes old new place h there i is = own_place-Sets name bytes old new i h (there i is)

open_name-Sets : (name bytes : List ℕ) (old new : List File) (place : Option ℕ) → Sets name bytes old new → IsOpened old place → option_map (name_at new) place ≡ option_map (name_at old) place
open_name-Sets name bytes old new None h there = refl
open_name-Sets name bytes old new (Some i) h there = ap Some (name_at-Sets name bytes old new i h (there i refl))

-- the disk after a file was set
pub disk-Sets : (name bytes : List ℕ) (old new : List File) (place : Option ℕ) → Sets name bytes old new → IsOpened old place
    → ◌≡◌ {A = Disk} (disk_of new place) (record { files = insert (from_entries old) name bytes; open_name = option_map (name_at old) place })
disk-Sets name bytes old new place h there =
    let e = open_name-Sets name bytes old new place h there in
    λ i. record { files = h.files i; open_name = e i }

-- the disk after a file was made and opened
pub disk-created : (name : List ℕ) (old new : List File) (i : ℕ) (place : Option ℕ) → Sets name [] old new → is_place i name (names new) ≡ true
    → ◌≡◌ {A = Disk} (disk_of new (Some i)) (created name (disk_of old place))
disk-created name old new i place h p =
    let e = ap {A = List ℕ} Some (name_at-place i name new p) in
    λ j. record { files = h.files j; open_name = e j }

-- the disk after the open file has grown
pub disk-appended : (bytes : List ℕ) (old new : List File) (i : ℕ) → is_place i (name_at old i) (names old) ≡ true
    → Sets (name_at old i) (bytes_at old i ++ bytes) old new
    → ◌≡◌ {A = Disk} (disk_of new (Some i)) (appended bytes (disk_of old (Some i)))
disk-appended bytes old new i p h =
    let n = name_at old i in
    let held : bytes_at old i ≡ unwrap_or (get {R = _} (from_entries old) n) [] = sym (ap (λ o. unwrap_or o []) (get-place i n old p)) in
    let files : ◌≡◌ {A = Files} (from_entries new) (insert (from_entries old) n (unwrap_or (get (from_entries old) n) [] ++ bytes)) =
    h.files ∙ ap (λ b. insert (from_entries old) n (b ++ bytes)) held in
    let e = ap {A = List ℕ} Some (name_at-Sets n (bytes_at old i ++ bytes) old new i h p) in
    λ j. record { files = files j; open_name = e j }

-- the same, whatever holds the place of the open file
pub disk-appended_at : (bytes : List ℕ) (old new : List File) (place : Option ℕ) (i : ℕ) → place ≡ Some i → IsOpened old place
    → Sets (name_at old i) (bytes_at old i ++ bytes) old new
    → ◌≡◌ {A = Disk} (disk_of new place) (appended bytes (disk_of old place))
disk-appended_at bytes old new place i is there h =
    rw is (disk-appended bytes old new i (there i is) h)

-- after a call that may have set a file
pub IsOpened-after : {T E : Type 0} (r : Result T E) (name bytes : List ℕ) (old new : List File) (place : Option ℕ)
    → OnOk r (Sets name bytes old new) → OnErr r (new ≡ old) → IsOpened old place → IsOpened new place
IsOpened-after (Ok x) name bytes old new place sets same there = IsOpened-Sets name bytes old new place sets there
IsOpened-after (Err e) name bytes old new place sets same there = rw same there
