-- Reading a source statement by statement, on lists.
use Rattle.std.specs.Prelude.{◌≡◌, ℕ, zero, suc, Bool, true, false, List, [], ◌∷◌, ◌++◌, Option, Some, None, Result, Ok, Err, option_map, option_to_list, nat_lt, length, if◌then◌else◌}
use Rattle.bb_ast.specs.declared.module.Module.{Module}
use Rattle.bb_ast.specs.Inside.Views.{module_view}
use Rattle.bb_ast.specs.Syntax.{PlainBody, PlainItem, PlainHead, PlainModule}
use Rattle.bb_lex.specs.declared.keyword.Keyword.TheVariants as words
use Rattle.bb_lex.specs.declared.token.Kind.{Kind}
use Rattle.bb_lex.specs.declared.token.Kind.TheVariants as kinds
use Rattle.bb_lex.specs.declared.token.Token.{Token}
use Rattle.bb_parse.specs.declared.fault.ParseFault.{ParseFault}
use Rattle.bb_parse.specs.declared.fault.ParseFault.TheVariants.{Statement, Unended, Deep, NoMemory}
use Rattle.bb_parse.specs.declared.stop.Stop.{Stop}
use Rattle.bb_parse.specs.declared.stop.Stop.TheVariants.{Amiss}
use Rattle.bb_parse.specs.declared.stop.Stop.TheVariants as stops
use Rattle.bb_parse.specs.Nesting.{mark_count, mark_square, nesting}
use Rattle.bb_parse.specs.Sources.{ends_statement, line_of}
use Rattle.bb_parse.specs.Inside.Symbols.{symbols, next_kind}
use Rattle.bb_parse.specs.Inside.Steps.{Read}
use Rattle.bb_parse.specs.Inside.Declarations.{header_at}
use Rattle.bb_parse.specs.Inside.Items.{read_body}

-- What a function returned is what reading gives, unless memory ran out.
abbrev pub Answers : {X Y : Type 0} → (X → Y) → Result X ParseFault → Result Y ParseFault → Type 0
Answers view (Ok x) read = read ≡ Ok (view x)
Answers view (Err (Statement line)) read = read ≡ Err (Statement line)
Answers view (Err Unended) read = read ≡ Err Unended
Answers view (Err (Deep line)) read = read ≡ Err (Deep line)
Answers view (Err NoMemory) read = Unit {0}

-- the counters of nesting after the next symbol
abbrev pub count_at : Option Kind → ℕ → ℕ → ℕ
count_at (Some (kinds.Mark m)) square count = mark_count m square count
count_at kind square count = count

abbrev pub square_at : Option Kind → ℕ → ℕ
square_at (Some (kinds.Mark m)) square = mark_square m square
square_at kind square = square

abbrev pub with_token : Token → Option (List Token × List Token) → Option (List Token × List Token)
with_token t None = None
with_token t (Some x) = Some (t ∷ x.0, x.1)

-- the first statement and the tokens after it, where one ends
abbrev pub first_statement : List Token → Option (List Token × List Token)
first_statement [] = None
first_statement (t ∷ ts) = if ends_statement t.kind then Some (t ∷ [], ts) else with_token t (first_statement ts)

-- what was read, where nothing is left
abbrev pub whole : {A : Type 0} → Read A → Option A
whole None = None
whole (Some (x, [])) = Some x
whole (Some (x, t ∷ ts)) = None

abbrev pub or_fault : {A : Type 0} → ParseFault → Option A → Result A ParseFault
or_fault fault None = Err fault
or_fault fault (Some x) = Ok x

-- what was read, where nothing is left, or why not
abbrev pub judged : {X : Type 0} → Result X Stop → ℕ → ℕ → Result X ParseFault
judged (Ok x) left line = if nat_lt 0 left then Err (Statement line) else Ok x
judged (Err Amiss) left line = Err (Statement line)
judged (Err stops.NoMemory) left line = Err NoMemory

-- the levels that are enough: 200, and the one on which nothing nests
abbrev pub levels : ℕ
levels = 201

unfoldable pub read_header_of : List ℕ → List Token → Result (List ℕ × List PlainHead) ParseFault
read_header_of text s =
    if nat_lt 200 (nesting (symbols text s)) then Err (Deep (line_of s)) else or_fault (Statement (line_of s)) (whole (header_at (next_kind (symbols text s)) (symbols text s)))

unfoldable pub read_item_of : List ℕ → List Token → Result PlainBody ParseFault
read_item_of text s = if nat_lt 200 (nesting (symbols text s)) then Err (Deep (line_of s)) else or_fault (Statement (line_of s)) (whole (read_body levels (symbols text s)))

abbrev pub is_endmodule : Option Kind → Bool
is_endmodule (Some (kinds.Word words.Endmodule)) = true
is_endmodule kind = false

-- a module with one more item
abbrev pub with_item : PlainModule → PlainItem → PlainModule
with_item m item = record m { items = m.items ++ item ∷ [] }

-- with this module before those that were read
abbrev pub with_modules : List PlainModule → Result (List PlainModule) ParseFault → Result (List PlainModule) ParseFault
with_modules prefix (Ok ms) = Ok (prefix ++ ms)
with_modules prefix (Err fault) = Err fault

abbrev pub at_end : Option PlainModule → List Token → Result (List PlainModule) ParseFault
at_end None [] = Ok []
at_end None (t ∷ ts) = Err Unended
at_end (Some m) tokens = Err Unended

abbrev pub then_read : {A B : Type 0} → Result A ParseFault → (A → Result B ParseFault) → Result B ParseFault
then_read (Ok x) f = f x
then_read (Err fault) f = Err fault

abbrev pub item_added : PlainModule → ℕ → PlainBody → Result PlainModule ParseFault
item_added m line body = Ok (with_item m (record { line = line; body = body }))

-- what one step of the code returned
abbrev pub step_view : Option Module × Option Module → List PlainModule × Option PlainModule
step_view x = (option_to_list (option_map module_view x.0), option_map module_view x.1)

-- a statement at its place: the module that it ends, if any, and the open module after it
unfoldable pub read_step : List ℕ → Option PlainModule → List Token → Result (List PlainModule × Option PlainModule) ParseFault
read_step text None s = then_read (read_header_of text s) (λ x. Ok ([], Some (record { name = x.0; line = line_of s; heads = x.1; items = [] })))
read_step text (Some m) s =
    if is_endmodule (next_kind (symbols text s)) then Ok (m ∷ [], None)
    else then_read (then_read (read_item_of text s) (item_added m (line_of s))) (λ n. Ok ([], Some n))

abbrev pub read_first : List ℕ → Option PlainModule → List Token → Option (List Token × List Token) → (Option PlainModule → List Token → Result (List PlainModule) ParseFault)
    → Result (List PlainModule) ParseFault
read_first text open_module tokens None go = at_end open_module tokens
read_first text open_module tokens (Some x) go = then_read (read_step text open_module x.0) (λ y. with_modules y.0 (go y.1 x.1))

-- at most n statements, where a module may be open
abbrev pub read_from : List ℕ → ℕ → Option PlainModule → List Token → Result (List PlainModule) ParseFault
read_from text zero open_module tokens = at_end open_module tokens
read_from text (suc n) open_module tokens = read_first text open_module tokens (first_statement tokens) (read_from text n)

unfoldable pub read_source : List ℕ → List Token → Result (List PlainModule) ParseFault
read_source text tokens = read_from text (length tokens) None tokens
