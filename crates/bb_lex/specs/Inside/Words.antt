-- Words, read from the start.
use Rattle.std.specs.Prelude.{ℕ, Option, Some, List, [], map, ◌==◌, if◌then◌else◌}
use Rattle.bb_lex.specs.declared.token.Kind.{Kind}
use Rattle.bb_lex.specs.Bytes.{is_identifier_byte, past}
use Rattle.std.specs.Borrow.{Bor}
use Rattle.bb_lex.specs.declared.keyword.Keyword.{Keyword}
use Rattle.bb_lex.specs.Words.{keyword_of, words_a, words_b, words_c, words_d, words_e, words_f, words_g, words_h, words_i, words_j, words_l, words_m, words_n, words_o, words_p, words_r, words_s, words_t, words_u, words_v, words_w, words_x}
use Rattle.bb_lex.specs.Pieces.{kind_of_word}
use Rattle.bb_lex.specs.Inside.Runs.{run_of}

-- a table of words, without where it lies in memory
abbrev pub entries : List (Bor (List ℕ) × Keyword) → List (List ℕ × Keyword)
entries table = map (λ (entry : Bor (List ℕ) × Keyword). (entry.0.now, entry.1)) table

-- the reserved words that begin with a byte
unfoldable pub words_by : ℕ → List (List ℕ × Keyword)
words_by b =
    if b == 97 then words_a
    else (if b == 98 then words_b
    else (if b == 99 then words_c
    else (if b == 100 then words_d
    else (if b == 101 then words_e
    else (if b == 102 then words_f
    else (if b == 103 then words_g
    else (if b == 104 then words_h
    else (if b == 105 then words_i
    else (if b == 106 then words_j
    else (if b == 108 then words_l
    else (if b == 109 then words_m
    else (if b == 110 then words_n
    else (if b == 111 then words_o
    else (if b == 112 then words_p
    else (if b == 114 then words_r
    else (if b == 115 then words_s
    else (if b == 116 then words_t
    else (if b == 117 then words_u
    else (if b == 118 then words_v
    else (if b == 119 then words_w
    else (if b == 120 then words_x
    else [])))))))))))))))))))))

-- the identifier at the start
abbrev pub identifier_at : List ℕ → Option (Option Kind × List ℕ)
identifier_at bytes = Some (Some (kind_of_word (keyword_of (run_of is_identifier_byte bytes))), past is_identifier_byte bytes)
