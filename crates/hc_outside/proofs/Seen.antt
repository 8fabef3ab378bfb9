-- A search for the first place of a name, from the front.
use Rattle.std.specs.Prelude.{◌≡◌, ◌<◌, ◌≤◌, ◌+◌, ℕ, suc, true, false, List, ◌∷◌, Some, None, cond, length, drop, slice_index_or, refl}
use Rattle.std.proofs.Common.{sym, ◌∙◌, ap, subst, arith, zero-add, add-one, drop-cons}
use Rattle.std.proofs.lemmas.List.{drop_all}
use Rattle.hc_outside.specs.FilesLemmas.{same_name}
use Rattle.hc_outside.specs.MemFiles.{File, names, find_file, is_place, not_past}

-- none of the first i files has that name
pub record IsSeen (files : List File) (name : List ℕ) (i : ℕ) : Type 0 where
  pub places : (k : ℕ) → is_place k name (names (drop i files)) ≡ true → is_place (i + k) name (names files) ≡ true
  pub found : find_file name (drop i files) ≡ find_file name files

pub IsSeen-start : (files : List File) (name : List ℕ) → IsSeen files name 0
IsSeen-start files name = record { places = λ k h. rw zero-add h; found = refl }

front : (files : List File) (i : ℕ) (now : File) → i < length files → now ≡ slice_index_or files i now → drop i files ≡ now ∷ drop (suc i) files
front files i now within is = drop-cons files i now within ∙ ap (λ (f : File). f ∷ drop (suc i) files) (sym is)

-- the file at i has the name
pub IsSeen-here : (files : List File) (name : List ℕ) (i : ℕ) (now : File) → i < length files → now ≡ slice_index_or files i now
    → IsSeen files name i → same_name name now.0 ≡ true → is_place i name (names files) ≡ true
IsSeen-here files name i now within is seen same =
    let h : is_place 0 name (names (drop i files)) ≡ true = rw (front files i now within is) same in
    subst (λ (k : ℕ). is_place k name (names files) ≡ true) (omega arith) (seen.places 0 h)

-- the file at i has another name
pub IsSeen-more : (files : List File) (name : List ℕ) (i : ℕ) (now : File) → i < length files → now ≡ slice_index_or files i now
    → IsSeen files name i → same_name name now.0 ≡ false → IsSeen files name (i + 1)
IsSeen-more files name i now within is seen other = record {
  places = λ k h.
      let h' : is_place k name (names (drop (suc i) files)) ≡ true = rw (← add-one i) h in
      let p : is_place (suc k) name (names (drop i files)) ≡ true = rw (front files i now within is) (not_past _ _ other h') in
      subst (λ (j : ℕ). is_place j name (names files) ≡ true) (omega arith) (seen.places (suc k) p);
  found =
      let f : find_file name (drop i files) ≡ find_file name (drop (suc i) files) =
      rw (front files i now within is) (ap (λ b. cond b (Some now.1) (find_file name (drop (suc i) files))) other) in
      rw (add-one i) (sym f ∙ seen.found);
}

pub IsSeen-end : (files : List File) (name : List ℕ) (i : ℕ) → length files ≤ i → IsSeen files name i → find_file name files ≡ None
IsSeen-end files name i past seen = sym seen.found ∙ ap (find_file name) (drop_all i files past)
