-- Statements of a list.
use Rattle.std.proofs.Common.{◌≡◌, List, [], ◌∷◌, ◌++◌, map, refl, ap, ◌∙◌}
use Rattle.hc_tree.specs.declared.place.Place.{Place}
use Rattle.hc_core.specs.declared.object.Kind.{Kind}
use Rattle.hc_core.specs.declared.object.Object.{Object}
use Rattle.hc_core.specs.declared.stmt.Stmt.{Stmt}
use Rattle.hc_core.specs.declared.stmt.Stmt.TheVariants as s
use Rattle.hc_core.specs.Program.{Seq, Par, ◌⨾◌}
use Rattle.hc_core.specs.Read.{statement, statements}
use Rattle.hc_core.specs.Sound.{IsTyped, AllTyped}
use Rattle.hc_core.specs.Typed.{kinds_of}
use Rattle.hc_core.proofs.Read.{read_Seq, read_Par}
use Rattle.hc_scope.specs.Sound.{Grows}
use Rattle.hc_scope.specs.Statement.{in_order}
use Rattle.hc_expand.specs.Forms.{parts_read}
use Rattle.hc_expand.proofs.Kept.{grown_statements}

-- the statements of a list, read one by one
pub statements_are : (parts : List Stmt) → statements parts ≡ in_order (parts_read parts)
unfolding statements
statements_are [] = refl
statements_are (first ∷ rest) = ap (λ l. statement first ⨾ l) (statements_are rest)

pub read_sequence : (place : Place) (parts : List Stmt) → statement (s.Seq place parts) ≡ Seq place (in_order (parts_read parts))
read_sequence place parts = read_Seq place parts ∙ ap (λ l. Seq place l) (statements_are parts)

pub read_parallel : (place : Place) (parts : List Stmt) → statement (s.Par place parts) ≡ Par place (in_order (parts_read parts))
read_parallel place parts = read_Par place parts ∙ ap (λ l. Par place l) (statements_are parts)

-- ---- types

pub none_typed : (kinds : List Kind) → AllTyped kinds (statements [])
unfolding statements
none_typed kinds = tt

pub one_more_typed : (kinds : List Kind) (parts : List Stmt) (last : Stmt) → AllTyped kinds (statements parts) → IsTyped kinds (statement last)
    → AllTyped kinds (statements (parts ++ last ∷ []))
unfolding statements
one_more_typed kinds [] last are is = (is, tt)
one_more_typed kinds (first ∷ rest) last (x, y) is = (x, one_more_typed kinds rest last y is)

-- one more statement, which may have made objects
pub one_more_part : (old new : List Object) (parts all : List Stmt) (last : Stmt) → Grows old new → AllTyped (kinds_of old) (statements parts)
    → IsTyped (kinds_of new) (statement last) → all ≡ parts ++ last ∷ [] → AllTyped (kinds_of new) (statements all)
one_more_part old new parts all last g are is list =
    rw list (one_more_typed (kinds_of new) parts last (grown_statements old new (statements parts) g are) is)

pub sequence_typed : (kinds : List Kind) (place : Place) (parts : List Stmt) → AllTyped kinds (statements parts) → IsTyped kinds (statement (s.Seq place parts))
sequence_typed kinds place parts are = rw (read_Seq place parts) are

pub parallel_typed : (kinds : List Kind) (place : Place) (parts : List Stmt) → AllTyped kinds (statements parts) → IsTyped kinds (statement (s.Par place parts))
parallel_typed kinds place parts are = rw (read_Par place parts) are
