use Rattle.std.proofs.Common.{sym, subst}
use Rattle.bb_net.specs.declared.cell.Cell.{Cell}
use Rattle.bb_tern.specs.Inside.Lanes.{GivesKnown}
use Rattle.bb_tern.proofs.lanes.cell_known.Goals as goal

pub returns-in-Not : goal.returns-in-Not
returns-in-Not c =
    subst (λ (cell : Cell). GivesKnown c.args.ins.now c.args.out.now cell c.known_not.result) (sym c.in-Not.is)
    (λ bound k x value reads l pattern values. c.known_not.ensures k (value c.in-Not.a) l (values c.in-Not.a reads))

pub returns-in-And : goal.returns-in-And
returns-in-And c =
    subst (λ (cell : Cell). GivesKnown c.args.ins.now c.args.out.now cell c.known_and.result) (sym c.in-And.is)
    (λ bound k x value reads l pattern values. c.known_and.ensures k (value c.in-And.a) (value c.in-And.b) l (values c.in-And.a reads.0) (values c.in-And.b reads.1))

pub returns-in-Or : goal.returns-in-Or
returns-in-Or c =
    subst (λ (cell : Cell). GivesKnown c.args.ins.now c.args.out.now cell c.known_or.result) (sym c.in-Or.is)
    (λ bound k x value reads l pattern values. c.known_or.ensures k (value c.in-Or.a) (value c.in-Or.b) l (values c.in-Or.a reads.0) (values c.in-Or.b reads.1))

pub returns-in-Xor : goal.returns-in-Xor
returns-in-Xor c =
    subst (λ (cell : Cell). GivesKnown c.args.ins.now c.args.out.now cell c.known_xor.result) (sym c.in-Xor.is)
    (λ bound k x value reads l pattern values. c.known_xor.ensures k (value c.in-Xor.a) (value c.in-Xor.b) l (values c.in-Xor.a reads.0) (values c.in-Xor.b reads.1))

pub returns-in-Mux : goal.returns-in-Mux
returns-in-Mux c =
    subst (λ (cell : Cell). GivesKnown c.args.ins.now c.args.out.now cell c.known_mux.result) (sym c.in-Mux.is)
    (λ bound k x value reads l pattern values. c.known_mux.ensures k (value c.in-Mux.c) (value c.in-Mux.t) (value c.in-Mux.e) l (values c.in-Mux.c reads.0) (values c.in-Mux.t reads.1) (values c.in-Mux.e reads.2))
