use Rattle.std.proofs.Common.{◌∙◌, ap₂}
use Rattle.clap.specs.Words.{with_rule}
use Rattle.bb_args.proofs.command.command.Goals as goal

pub returns : goal.returns
returns c =
    let a1 = c.in_ok-arg.ensures.shape c.positional.ensures.local ∙ ap₂ with_rule c.bare.ensures.app c.positional.ensures.rule in
    let a2 = c.in_ok-arg-2.ensures.shape c.positional-2.ensures.local ∙ ap₂ with_rule a1 c.positional-2.ensures.rule in
    let a3 = c.in_ok-arg-3.ensures.shape c.flag.ensures.local ∙ ap₂ with_rule a2 c.flag.ensures.rule in
    let a4 = c.in_ok-arg-4.ensures.shape c.flag-2.ensures.local ∙ ap₂ with_rule a3 c.flag-2.ensures.rule in
    let a5 = c.in_ok-arg-5.ensures.shape c.flag-3.ensures.local ∙ ap₂ with_rule a4 c.flag-3.ensures.rule in
    let a6 = c.in_ok-arg-6.ensures.shape c.flag-4.ensures.local ∙ ap₂ with_rule a5 c.flag-4.ensures.rule in
    let a7 = c.in_ok-arg-7.ensures.shape c.flag-5.ensures.local ∙ ap₂ with_rule a6 c.flag-5.ensures.rule in
    let a8 = c.in_ok-arg-8.ensures.shape c.valued.ensures.local ∙ ap₂ with_rule a7 c.valued.ensures.rule in
    let a9 = c.in_ok-arg-9.ensures.shape c.valued-2.ensures.local ∙ ap₂ with_rule a8 c.valued-2.ensures.rule in
    let a10 = c.in_ok-arg-10.ensures.shape c.valued-3.ensures.local ∙ ap₂ with_rule a9 c.valued-3.ensures.rule in
    let a11 = c.in_ok-arg-11.ensures.shape c.valued-4.ensures.local ∙ ap₂ with_rule a10 c.valued-4.ensures.rule in
    let a12 = c.in_ok-arg-12.ensures.shape c.valued-5.ensures.local ∙ ap₂ with_rule a11 c.valued-5.ensures.rule in
    let a13 = c.in_ok-arg-13.ensures.shape c.valued-6.ensures.local ∙ ap₂ with_rule a12 c.valued-6.ensures.rule in
    let a14 = c.in_ok-arg-14.ensures.shape c.valued-7.ensures.local ∙ ap₂ with_rule a13 c.valued-7.ensures.rule in
    let a15 = c.in_ok-arg-15.ensures.shape c.valued-8.ensures.local ∙ ap₂ with_rule a14 c.valued-8.ensures.rule in
    let a16 = c.in_ok-arg-16.ensures.shape c.valued-9.ensures.local ∙ ap₂ with_rule a15 c.valued-9.ensures.rule in
    let a17 = c.in_ok-arg-17.ensures.shape c.valued-10.ensures.local ∙ ap₂ with_rule a16 c.valued-10.ensures.rule in
    let a18 = c.in_ok-arg-18.ensures.shape c.valued-11.ensures.local ∙ ap₂ with_rule a17 c.valued-11.ensures.rule in
    let a19 = c.in_ok-command.ensures.shape c.valued-12.ensures.local ∙ ap₂ with_rule a18 c.valued-12.ensures.rule in
    record { app = a19 }
