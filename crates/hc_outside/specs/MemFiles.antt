-- Files in a list, as a `MemStore` keeps them, and where one of a name stands. A name that stands twice counts once, at
-- its first place.
use Rattle.std.specs.Prelude.{◌≡◌, ◌<◌, ◌++◌, ◌&&◌, ℕ, zero, suc, Bool, true, false, not, cond, List, [], ◌∷◌, Option, Some, None, length, map, slice_set, slice_index_or, refl}
use Rattle.std.proofs.Common.{sym, ◌∙◌, ap, subst, arith}
use Rattle.std.proofs.Math.Seq.{map-set_same}
use Rattle.std.proofs.lemmas.List.{map-append, get_or_read}
use Rattle.std.specs.Option.{option_map}
use Rattle.std.specs.Ordering.{nat_cmp}
use Rattle.std.specs.Cmp.Lexicographic.{slice_cmp}
use Rattle.std.specs.FinMap.{find, get, insert, from_entries, get-insert, get-from_entries, same_map, from_entries_push}
use Rattle.hc_outside.specs.Store.{Files, Disk}
use Rattle.hc_outside.specs.FilesLemmas.{total, apart, same_name, same_name-itself, equal_names}

-- a name and the bytes of its file
abbrev pub File : Type 0
File = List ℕ × List ℕ

abbrev pub name_at : List File → ℕ → List ℕ
name_at files i = (slice_index_or files i ([], [])).0

abbrev pub bytes_at : List File → ℕ → List ℕ
bytes_at files i = (slice_index_or files i ([], [])).1

abbrev pub names : List File → List (List ℕ)
names files = map (λ (f : File). f.0) files

-- the bytes of the file of that name
abbrev pub find_file : List ℕ → List File → Option (List ℕ)
find_file name files = find (slice_cmp nat_cmp) name files

-- the same, as the map of the files answers it
abbrev pub look_up : List File → List ℕ → Option (List ℕ)
look_up files name = get {R = slice_cmp nat_cmp} (from_entries files) name

-- i is the first place of the name
abbrev pub is_place : ℕ → List ℕ → List (List ℕ) → Bool
is_place i name [] = false
is_place zero name (n ∷ ns) = same_name name n
is_place (suc i) name (n ∷ ns) = not (same_name name n) && is_place i name ns

-- the disk of these files, with the one at that place open
abbrev pub disk_of : List File → Option ℕ → Disk
disk_of files place = record { files = from_entries files; open_name = option_map (name_at files) place }

abbrev IsFalseNow : Bool → Type 0
IsFalseNow false = Unit {0}
IsFalseNow true = ⊥

true_is_not_false : false ≡ true → ⊥
true_is_not_false e = subst IsFalseNow e tt

past : (b c : Bool) → not b && c ≡ true → (b ≡ false) × (c ≡ true)
past true c h = absurd cc
past false c h = (refl, h)

pub not_past : (b c : Bool) → b ≡ false → c ≡ true → not b && c ≡ true
not_past b c h k = rw (h, k) refl

in_rest : (i n : ℕ) → i < n → suc i < suc n
in_rest i n h = omega arith

pub place-within : (i : ℕ) (name : List ℕ) (files : List File) → is_place i name (names files) ≡ true → i < length files
place-within i name [] h = absurd cc
place-within zero name (f ∷ fs) h = omega arith
place-within (suc i) name (f ∷ fs) h = in_rest i (length fs) (place-within i name fs (past _ _ h).1)

pub name_at-place : (i : ℕ) (name : List ℕ) (files : List File) → is_place i name (names files) ≡ true → name_at files i ≡ name
name_at-place i name [] h = absurd cc
name_at-place zero name (f ∷ fs) h = sym (equal_names name f.0 h)
name_at-place (suc i) name (f ∷ fs) h = name_at-place i name fs (past _ _ h).1

pub find-place : (i : ℕ) (name : List ℕ) (files : List File) → is_place i name (names files) ≡ true → find_file name files ≡ Some (bytes_at files i)
find-place i name [] h = absurd cc
find-place zero name (f ∷ fs) h = ap (λ b. cond b (Some f.1) (find_file name fs)) h
find-place (suc i) name (f ∷ fs) h =
    ap (λ b. cond b (Some f.1) (find_file name fs)) (past _ _ h).0 ∙ find-place i name fs (past _ _ h).1

swap : {A : Type 0} (a b : Bool) (x y z : A) → (a ≡ true → b ≡ true → x ≡ y) → cond a x (cond b y z) ≡ cond b y (cond a x z)
swap true true x y z both = both refl refl
swap true false x y z both = refl
swap false b x y z both = refl

twice : {A : Type 0} (a b : Bool) (x y z : A) → a ≡ b → cond a x z ≡ cond a x (cond b y z)
twice true b x y z h = refl
twice false true x y z h = absurd (true_is_not_false h)
twice false false x y z h = refl

-- one name is not two
one_name : {A : Type 0} (q name n : List ℕ) → same_name name n ≡ false → same_name q n ≡ true → same_name q name ≡ true → A
one_name q name n different one two =
    let e : n ≡ name = sym (equal_names q n one) ∙ equal_names q name two in
    let t : same_name name n ≡ true = ap (same_name name) e ∙ same_name-itself name in
    absurd (true_is_not_false (sym different ∙ t))

pub find-set_place : (i : ℕ) (name bytes : List ℕ) (files : List File) (q : List ℕ) → is_place i name (names files) ≡ true
    → find_file q (slice_set files i (name, bytes)) ≡ cond (same_name q name) (Some bytes) (find_file q files)
find-set_place i name bytes [] q h = absurd cc
find-set_place zero name bytes (f ∷ fs) q h =
    twice (same_name q name) (same_name q f.0) (Some bytes) (Some f.1) (find_file q fs) (ap (same_name q) (equal_names name f.0 h))
find-set_place (suc i) name bytes (f ∷ fs) q h =
    ap (cond (same_name q f.0) (Some f.1)) (find-set_place i name bytes fs q (past _ _ h).1)
    ∙ swap (same_name q f.0) (same_name q name) (Some f.1) (Some bytes) (find_file q fs) (one_name q name f.0 (past _ _ h).0)

-- new bytes in the place of a name
pub from_entries-set_place : (i : ℕ) (name bytes : List ℕ) (files : List File) → is_place i name (names files) ≡ true
    → ◌≡◌ {A = Files} (from_entries (slice_set files i (name, bytes))) (insert (from_entries files) name bytes)
from_entries-set_place i name bytes files h = same_map total apart _ _ (λ q.
    get-from_entries total (slice_set files i (name, bytes)) q
    ∙ find-set_place i name bytes files q h
    ∙ ap (cond (same_name q name) (Some bytes)) (sym (get-from_entries total files q))
    ∙ sym (get-insert total (from_entries files) name bytes q))

-- and no name moves
pub names-set_place : (i : ℕ) (name bytes : List ℕ) (files : List File) → is_place i name (names files) ≡ true
    → names (slice_set files i (name, bytes)) ≡ names files
names-set_place i name bytes files h = map-set_same (λ (f : File). f.0) files i (name, bytes) ([], []) (sym (name_at-place i name files h))

-- a file of a new name at the end
pub from_entries-push : (name bytes : List ℕ) (files : List File) → find_file name files ≡ None
    → ◌≡◌ {A = Files} (from_entries (files ++ (name, bytes) ∷ [])) (insert (from_entries files) name bytes)
from_entries-push name bytes files none = from_entries_push total apart files name bytes none

pub is_place-append : (i : ℕ) (name : List ℕ) (ns ms : List (List ℕ)) → is_place i name ns ≡ true → is_place i name (ns ++ ms) ≡ true
is_place-append i name [] ms h = absurd cc
is_place-append zero name (n ∷ ns) ms h = h
is_place-append (suc i) name (n ∷ ns) ms h = not_past _ _ (past _ _ h).0 (is_place-append i name ns ms (past _ _ h).1)

none_past : {A : Type 0} (b : Bool) (x : A) (o : Option A) → cond b (Some x) o ≡ None → (b ≡ false) × (o ≡ None)
none_past true x o h = absurd cc
none_past false x o h = (refl, h)

pub is_place-push : (name bytes : List ℕ) (files : List File) → find_file name files ≡ None
    → is_place (length files) name (names (files ++ (name, bytes) ∷ [])) ≡ true
is_place-push name bytes [] h = same_name-itself name
is_place-push name bytes (f ∷ fs) h =
    let rest = none_past (same_name name f.0) f.1 (find_file name fs) h in
    not_past _ _ rest.0 (is_place-push name bytes fs rest.1)

-- the new files are the old ones with these bytes under the name, and no file has moved
pub record Sets (name bytes : List ℕ) (old new : List File) : Type 0 where
  pub files : ◌≡◌ {A = Files} (from_entries new) (insert (from_entries old) name bytes)
  pub places : (i : ℕ) (n : List ℕ) → is_place i n (names old) ≡ true → is_place i n (names new) ≡ true

pub Sets-place : (i : ℕ) (name bytes : List ℕ) (files : List File) → is_place i name (names files) ≡ true → Sets name bytes files (slice_set files i (name, bytes))
Sets-place i name bytes files h = record {
  files = from_entries-set_place i name bytes files h;
  places = λ j n k. rw (names-set_place i name bytes files h) k;
}

pub Sets-push : (name bytes : List ℕ) (files : List File) → find_file name files ≡ None → Sets name bytes files (files ++ (name, bytes) ∷ [])
Sets-push name bytes files none = record {
  files = from_entries-push name bytes files none;
  places = λ j n k. rw (map-append (λ (f : File). f.0) files ((name, bytes) ∷ [])) (is_place-append j n (names files) (name ∷ []) k);
}

-- a place that a name has is one of its own
pub own_place : (i : ℕ) (name : List ℕ) (files : List File) → is_place i name (names files) ≡ true → is_place i (name_at files i) (names files) ≡ true
own_place i name files h = rw (name_at-place i name files h) h

-- the same for a write through a reference to the file at that place
pub Sets-written : (i : ℕ) (files : List File) (bytes : List ℕ) (now new : File) → is_place i (name_at files i) (names files) ≡ true
    → now ≡ slice_index_or files i now → new ≡ (now.0, bytes) → Sets (name_at files i) bytes files (slice_set files i new)
Sets-written i files bytes now new h was is =
    let here : now ≡ slice_index_or files i ([], []) = get_or_read files i now (place-within i (name_at files i) files h) was ([], []) in
    let e : new ≡ (name_at files i, bytes) = is ∙ ap (λ (f : File). (f.0, bytes)) here in
    rw e (Sets-place i (name_at files i) bytes files h)

-- and for one that adds bytes at its end
pub Sets-appended : (i : ℕ) (files : List File) (bytes : List ℕ) (now new : File) → is_place i (name_at files i) (names files) ≡ true
    → now ≡ slice_index_or files i now → new ≡ (now.0, now.1 ++ bytes) → Sets (name_at files i) (bytes_at files i ++ bytes) files (slice_set files i new)
Sets-appended i files bytes now new h was is =
    let here : now ≡ slice_index_or files i ([], []) = get_or_read files i now (place-within i (name_at files i) files h) was ([], []) in
    Sets-written i files (bytes_at files i ++ bytes) now new h was (is ∙ ap (λ (f : File). (now.0, f.1 ++ bytes)) here)

-- what the map answers to a name that has a place
pub get-place : (i : ℕ) (name : List ℕ) (files : List File) → is_place i name (names files) ≡ true
    → get {R = slice_cmp nat_cmp} (from_entries files) name ≡ Some (bytes_at files i)
get-place i name files h = get-from_entries total files name ∙ find-place i name files h
