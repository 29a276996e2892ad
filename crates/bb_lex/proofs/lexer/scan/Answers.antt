use Rattle.std.proofs.Common.{◌+◌, ◌-◌, ◌<◌, length, ◌++◌, sym, ap, ◌∙◌, subst, arith, false-eqb}
use Rattle.bb_lex.specs.Inside.Found.{seen}
use Rattle.bb_lex.specs.Inside.Pieces.{tokens_at}
use Rattle.bb_lex.proofs.TokenLists.{IsScanned, scan_step, scanned_bad}
use Rattle.bb_lex.proofs.lexer.scan.Goals as goal

pub returns-in_default : goal.returns-in_default
returns-in_default c =
    let more : 0 < length c.pieces.rest.now = omega (arith, false-eqb (length c.pieces.rest.now) 0 c.pieces-test.ensures) in
    scanned_bad c.args.text.now c.pieces.tokens.items c.pieces.line c.pieces.rest.now more (sym c.piece_at.ensures ∙ ap seen c.in_default.is) c.pieces.invariant

pub overflow_sub-length : goal.overflow_sub-length
overflow_sub-length c =
    let step = scan_step c.args.text.now c.pieces.tokens.items c.pieces.line c.pieces.rest.now c.in-Some.found.rest.now c.in-Some.found.kind (sym c.in-Some.ensures) c.pieces.invariant in
    omega (arith, step.less)

pub pieces-smaller : goal.pieces-smaller
pieces-smaller c =
    let step = scan_step c.args.text.now c.pieces.tokens.items c.pieces.line c.pieces.rest.now c.in-Some.found.rest.now c.in-Some.found.kind (sym c.in-Some.ensures) c.pieces.invariant in
    step.less

-- the piece's token is pushed, and its newlines are counted
pub pieces-preserved : goal.pieces-preserved
pieces-preserved c =
    let text = c.args.text.now in
    let old = c.pieces.tokens.items in
    let line = c.pieces.line in
    let rest = c.pieces.rest.now in
    let r = c.in-Some.found.rest.now in
    let kind = c.in-Some.found.kind in
    let step = scan_step text old line rest r kind (sym c.in-Some.ensures) c.pieces.invariant in
    subst (λ l. IsScanned text l (line + c.newlines-line.result) r) (sym c.in_ok-push_token.ensures.ok)
    (subst (λ n. IsScanned text (old ++ tokens_at kind (length text - length rest) (length text - length rest + (length rest - length r)) line) (line + n) r) (sym c.newlines-line.ensures) step.next)
