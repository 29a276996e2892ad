-- The reserved words by their first letter, in alphabetical order (IEEE 1364-2005, annex B), and the keyword that each is.
-- Case counts.
use Rattle.std.specs.Prelude.{ℕ, Option, Some, None, List, [], ◌∷◌, ◌++◌, codes, if◌then◌else◌, bytes_eq}
use Rattle.bb_lex.specs.declared.keyword.Keyword.{Keyword}
use Rattle.bb_lex.specs.declared.keyword.Keyword.TheVariants as word

abbrev pub words_a : List (List ℕ × Keyword)
words_a = (codes "always", word.Always) ∷ (codes "and", word.And) ∷ (codes "assign", word.Assign) ∷ (codes "automatic", word.Other) ∷ []

abbrev pub words_b : List (List ℕ × Keyword)
words_b = (codes "begin", word.Other) ∷ (codes "buf", word.Buf) ∷ (codes "bufif0", word.Other) ∷ (codes "bufif1", word.Other) ∷ []

abbrev pub words_c : List (List ℕ × Keyword)
words_c = (codes "case", word.Other) ∷ (codes "casex", word.Other) ∷ (codes "casez", word.Other) ∷ (codes "cell", word.Other) ∷ (codes "cmos", word.Other) ∷ (codes "config", word.Other) ∷ []

abbrev pub words_d : List (List ℕ × Keyword)
words_d = (codes "deassign", word.Other) ∷ (codes "default", word.Other) ∷ (codes "defparam", word.Other) ∷ (codes "design", word.Other) ∷ (codes "disable", word.Other) ∷ []

abbrev pub words_e : List (List ℕ × Keyword)
words_e = (codes "edge", word.Other) ∷ (codes "else", word.Other) ∷ (codes "end", word.Other) ∷ (codes "endcase", word.Other) ∷ (codes "endconfig", word.Other) ∷ (codes "endfunction", word.Other) ∷ (codes "endgenerate", word.Other) ∷ (codes "endmodule", word.Endmodule) ∷ (codes "endprimitive", word.Other) ∷ (codes "endspecify", word.Other) ∷ (codes "endtable", word.Other) ∷ (codes "endtask", word.Other) ∷ (codes "event", word.Other) ∷ []

abbrev pub words_f : List (List ℕ × Keyword)
words_f = (codes "for", word.Other) ∷ (codes "force", word.Other) ∷ (codes "forever", word.Other) ∷ (codes "fork", word.Other) ∷ (codes "function", word.Other) ∷ []

abbrev pub words_g : List (List ℕ × Keyword)
words_g = (codes "generate", word.Other) ∷ (codes "genvar", word.Other) ∷ []

abbrev pub words_h : List (List ℕ × Keyword)
words_h = (codes "highz0", word.Other) ∷ (codes "highz1", word.Other) ∷ []

abbrev pub words_i : List (List ℕ × Keyword)
words_i = (codes "if", word.Other) ∷ (codes "ifnone", word.Other) ∷ (codes "incdir", word.Other) ∷ (codes "include", word.Other) ∷ (codes "initial", word.Other) ∷ (codes "inout", word.Other) ∷ (codes "input", word.Input) ∷ (codes "instance", word.Other) ∷ (codes "integer", word.Other) ∷ []

abbrev pub words_j : List (List ℕ × Keyword)
words_j = (codes "join", word.Other) ∷ []

abbrev pub words_l : List (List ℕ × Keyword)
words_l = (codes "large", word.Other) ∷ (codes "liblist", word.Other) ∷ (codes "library", word.Other) ∷ (codes "localparam", word.Other) ∷ []

abbrev pub words_m : List (List ℕ × Keyword)
words_m = (codes "macromodule", word.Other) ∷ (codes "medium", word.Other) ∷ (codes "module", word.Module) ∷ []

abbrev pub words_n : List (List ℕ × Keyword)
words_n = (codes "nand", word.Nand) ∷ (codes "negedge", word.Negedge) ∷ (codes "nmos", word.Other) ∷ (codes "nor", word.Nor) ∷ (codes "noshowcancelled", word.Other) ∷ (codes "not", word.Not) ∷ (codes "notif0", word.Other) ∷ (codes "notif1", word.Other) ∷ []

abbrev pub words_o : List (List ℕ × Keyword)
words_o = (codes "or", word.Or) ∷ (codes "output", word.Output) ∷ []

abbrev pub words_p : List (List ℕ × Keyword)
words_p = (codes "parameter", word.Other) ∷ (codes "pmos", word.Other) ∷ (codes "posedge", word.Posedge) ∷ (codes "primitive", word.Other) ∷ (codes "pull0", word.Other) ∷ (codes "pull1", word.Other) ∷ (codes "pulldown", word.Other) ∷ (codes "pullup", word.Other) ∷ (codes "pulsestyle_ondetect", word.Other) ∷ (codes "pulsestyle_onevent", word.Other) ∷ []

abbrev pub words_r : List (List ℕ × Keyword)
words_r = (codes "rcmos", word.Other) ∷ (codes "real", word.Other) ∷ (codes "realtime", word.Other) ∷ (codes "reg", word.Reg) ∷ (codes "release", word.Other) ∷ (codes "repeat", word.Other) ∷ (codes "rnmos", word.Other) ∷ (codes "rpmos", word.Other) ∷ (codes "rtran", word.Other) ∷ (codes "rtranif0", word.Other) ∷ (codes "rtranif1", word.Other) ∷ []

abbrev pub words_s : List (List ℕ × Keyword)
words_s = (codes "scalared", word.Other) ∷ (codes "showcancelled", word.Other) ∷ (codes "signed", word.Other) ∷ (codes "small", word.Other) ∷ (codes "specify", word.Other) ∷ (codes "specparam", word.Other) ∷ (codes "strong0", word.Other) ∷ (codes "strong1", word.Other) ∷ (codes "supply0", word.Supply0) ∷ (codes "supply1", word.Supply1) ∷ []

abbrev pub words_t : List (List ℕ × Keyword)
words_t = (codes "table", word.Other) ∷ (codes "task", word.Other) ∷ (codes "time", word.Other) ∷ (codes "tran", word.Other) ∷ (codes "tranif0", word.Other) ∷ (codes "tranif1", word.Other) ∷ (codes "tri", word.Other) ∷ (codes "tri0", word.Other) ∷ (codes "tri1", word.Other) ∷ (codes "triand", word.Other) ∷ (codes "trior", word.Other) ∷ (codes "trireg", word.Other) ∷ []

abbrev pub words_u : List (List ℕ × Keyword)
words_u = (codes "unsigned", word.Other) ∷ (codes "use", word.Other) ∷ (codes "uwire", word.Other) ∷ []

abbrev pub words_v : List (List ℕ × Keyword)
words_v = (codes "vectored", word.Other) ∷ []

abbrev pub words_w : List (List ℕ × Keyword)
words_w = (codes "wait", word.Other) ∷ (codes "wand", word.Other) ∷ (codes "weak0", word.Other) ∷ (codes "weak1", word.Other) ∷ (codes "while", word.Other) ∷ (codes "wire", word.Wire) ∷ (codes "wor", word.Other) ∷ []

abbrev pub words_x : List (List ℕ × Keyword)
words_x = (codes "xnor", word.Xnor) ∷ (codes "xor", word.Xor) ∷ []

-- all of them
unfoldable pub reserved : List (List ℕ × Keyword)
reserved = words_a ++ words_b ++ words_c ++ words_d ++ words_e ++ words_f ++ words_g ++ words_h ++ words_i ++ words_j ++ words_l ++ words_m ++ words_n ++ words_o ++ words_p ++ words_r ++ words_s ++ words_t ++ words_u ++ words_v ++ words_w ++ words_x

-- the keyword of the first entry with these bytes
abbrev pub entry_of : List (List ℕ × Keyword) → List ℕ → Option Keyword
entry_of [] bytes = None
entry_of (entry ∷ entries) bytes = if bytes_eq entry.0 bytes then Some entry.1 else entry_of entries bytes

-- the keyword that the bytes are, if they are one
unfoldable pub keyword_of : List ℕ → Option Keyword
keyword_of bytes = entry_of reserved bytes
