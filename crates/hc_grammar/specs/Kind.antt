-- What a token is to the grammar.
use Rattle.std.specs.Prelude.{ℕ, Bool, true, false, List, [], ◌∷◌, Option, unwrap_or, option_map, find, map, codes}
use denote.Bor.{Bor}
use Rattle.std.specs.Str.{bytes_eq}
use Rattle.hc_lex.specs.declared.token.Token as lex
use Rattle.hc_lex.specs.declared.token.Token.TheVariants as t
use Rattle.hc_lex.specs.declared.token.Placed.{Placed}
use Rattle.hc_grammar.specs.declared.kind.Kind.{Kind}
use Rattle.hc_grammar.specs.declared.kind.Kind.TheVariants.{Break, Case, Chan, Default, Delay, Do, Else, External, For, If, IfSelect, Int, Interface, Macro, Par, Prialt, Ram, Rom, Select, Seq, Set, Signal, Signed, Static, Switch, Unsigned, Void, While, Width, With, Main, Clock, Family, Part, Expr, Proc, BusIn, BusOut, Name, Number, Text, Mark}

-- the words that aren't names
unfoldable pub reserved : List (List ℕ × Kind)
reserved =
    (codes "break", Break) ∷ (codes "case", Case) ∷ (codes "chan", Chan) ∷ (codes "default", Default) ∷ (codes "delay", Delay)
    ∷ (codes "do", Do) ∷ (codes "else", Else) ∷ (codes "external", External) ∷ (codes "for", For) ∷ (codes "if", If)
    ∷ (codes "ifselect", IfSelect) ∷ (codes "int", Int) ∷ (codes "interface", Interface) ∷ (codes "macro", Macro) ∷ (codes "par", Par)
    ∷ (codes "prialt", Prialt) ∷ (codes "ram", Ram) ∷ (codes "rom", Rom) ∷ (codes "select", Select) ∷ (codes "seq", Seq)
    ∷ (codes "set", Set) ∷ (codes "signal", Signal) ∷ (codes "signed", Signed) ∷ (codes "static", Static) ∷ (codes "switch", Switch)
    ∷ (codes "unsigned", Unsigned) ∷ (codes "void", Void) ∷ (codes "while", While) ∷ (codes "width", Width) ∷ (codes "with", With) ∷ []

-- the names that the grammar quotes
unfoldable pub quoted : List (List ℕ × Kind)
quoted =
    (codes "main", Main) ∷ (codes "clock", Clock) ∷ (codes "family", Family) ∷ (codes "part", Part) ∷ (codes "expr", Expr)
    ∷ (codes "proc", Proc) ∷ (codes "bus_in", BusIn) ∷ (codes "bus_out", BusOut) ∷ []

-- the kind that a list gives a word
abbrev pub listed : List (List ℕ × Kind) → List ℕ → Option Kind
listed entries word = option_map (λ e. e.1) (find (λ e. bytes_eq e.0 word) entries)

-- a table as the code has it
abbrev pub entries : List (Bor (List ℕ) × Kind) → List (List ℕ × Kind)
entries table = map (λ e. (e.0.now, e.1)) table

unfoldable pub word_kind : List ℕ → Kind
word_kind word = unwrap_or (listed reserved word) (unwrap_or (listed quoted word) Name)

unfoldable pub token_kind : lex.Token → Kind
token_kind (t.Word word) = word_kind word
token_kind (t.Number n) = Number
token_kind (t.Text text) = Text
token_kind (t.Mark mark) = Mark mark

unfoldable pub kind : Placed → Kind
kind p = token_kind p.token

-- a word that isn't reserved
unfoldable pub is_name : Kind → Bool
is_name Main = true
is_name Clock = true
is_name Family = true
is_name Part = true
is_name Expr = true
is_name Proc = true
is_name BusIn = true
is_name BusOut = true
is_name Name = true
is_name _ = false

-- the bytes of a word or text, and the value of a number
unfoldable pub bytes_of : lex.Token → List ℕ
bytes_of (t.Word word) = word
bytes_of (t.Number n) = []
bytes_of (t.Text text) = text
bytes_of (t.Mark mark) = []

unfoldable pub number_of : lex.Token → ℕ
number_of (t.Word word) = 0
number_of (t.Number n) = n
number_of (t.Text text) = 0
number_of (t.Mark mark) = 0
