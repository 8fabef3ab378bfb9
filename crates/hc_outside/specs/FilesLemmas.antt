-- What a map of files answers after a change. `total` and `apart` are what std's lemmas ask of the order of names.
use Rattle.std.specs.Prelude.{◌≡◌, ℕ, Bool, true, false, cond, List, Option, Some, None, refl}
use Rattle.std.proofs.Common.{sym, ◌∙◌, ap}
use Rattle.std.specs.Ordering.{nat_cmp, eq_by_cmp, is_eq}
use Rattle.std.specs.Cmp.{IsTotalOrder}
use Rattle.std.specs.Cmp.Lexicographic.{slice_cmp}
use Rattle.std.proofs.lemmas.Cmp.{nat_list_cmp_total, tied_itself}
use Rattle.std.specs.declared.cmp.Ordering.{Ordering}
use Rattle.std.specs.declared.cmp.Ordering.TheVariants.{Less, Equal, Greater}
use Rattle.std.specs.FinMap.{get, insert, remove, get-insert, get-remove, same_map, IsAntisymmetric, slice_cmp-IsAntisymmetric, nat_cmp-IsAntisymmetric}
use Rattle.hc_outside.specs.Store.{Files}

pub total : IsTotalOrder (slice_cmp nat_cmp)
total = nat_list_cmp_total

pub apart : IsAntisymmetric (slice_cmp nat_cmp)
apart = slice_cmp-IsAntisymmetric nat_cmp-IsAntisymmetric

-- the test by which a map finds a name
abbrev pub same_name : List ℕ → List ℕ → Bool
same_name = eq_by_cmp (slice_cmp nat_cmp)

pub same_name-itself : (name : List ℕ) → same_name name name ≡ true
same_name-itself name = ap is_eq (tied_itself total name)

equal_of_tied : (o : Ordering) → is_eq o ≡ true → o ≡ Equal
equal_of_tied Less e = absurd cc
equal_of_tied Equal e = refl
equal_of_tied Greater e = absurd cc

pub equal_names : (q name : List ℕ) → same_name q name ≡ true → q ≡ name
equal_names q name e = apart q name (equal_of_tied _ e)

pub get-insert_same : (files : Files) (name bytes : List ℕ) → get (insert files name bytes) name ≡ Some bytes
get-insert_same files name bytes =
    get-insert total files name bytes name ∙ ap (λ b. cond b (Some bytes) (get files name)) (same_name-itself name)

inner : {A : Type 0} (b : Bool) (x y z : A) → cond b x (cond b y z) ≡ cond b x z
inner true x y z = refl
inner false x y z = refl

pub insert-insert : (files : Files) (name a b : List ℕ) → insert (insert files name a) name b ≡ insert files name b
insert-insert files name a b = same_map total apart _ _ (λ q.
    get-insert total _ name b q
    ∙ ap (cond (same_name q name) (Some b)) (get-insert total files name a q)
    ∙ inner (same_name q name) (Some b) (Some a) (get files q)
    ∙ sym (get-insert total files name b q))

pub remove-insert : (files : Files) (name bytes : List ℕ) → remove (insert files name bytes) name ≡ remove files name
remove-insert files name bytes = same_map total apart _ _ (λ q.
    get-remove total _ name q
    ∙ ap (cond (same_name q name) None) (get-insert total files name bytes q)
    ∙ inner (same_name q name) None (Some bytes) (get files q)
    ∙ sym (get-remove total files name q))

pub insert-remove : (files : Files) (name bytes : List ℕ) → insert (remove files name) name bytes ≡ insert files name bytes
insert-remove files name bytes = same_map total apart _ _ (λ q.
    get-insert total _ name bytes q
    ∙ ap (cond (same_name q name) (Some bytes)) (get-remove total files name q)
    ∙ inner (same_name q name) (Some bytes) None (get files q)
    ∙ sym (get-insert total files name bytes q))

same_when : (b : Bool) (x y : Option (List ℕ)) → (b ≡ true → x ≡ y) → cond b x y ≡ y
same_when true x y h = h refl
same_when false x y h = refl

-- to insert what is there changes nothing
pub insert-there : (files : Files) (name bytes : List ℕ) → get files name ≡ Some bytes → insert files name bytes ≡ files
insert-there files name bytes there = same_map total apart _ _ (λ q.
    get-insert total files name bytes q
    ∙ same_when (same_name q name) (Some bytes) (get files q)
    (λ e. sym there ∙ ap (get files) (sym (equal_names q name e))))

-- two maps that differ at most under a name, and have the same there, are one
pub same_but : (a b : Files) (name bytes : List ℕ) → remove b name ≡ remove a name → get b name ≡ Some bytes → b ≡ insert a name bytes
same_but a b name bytes rest there =
    sym (insert-there b name bytes there)
    ∙ sym (insert-remove b name bytes)
    ∙ ap (λ m. insert m name bytes) rest
    ∙ insert-remove a name bytes
