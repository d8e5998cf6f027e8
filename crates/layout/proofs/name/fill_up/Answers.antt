-- the check leaves this goal
use Rattle.std.proofs.Common.{◌≡◌, ◌-◌, ◌++◌, length, drop, replicate, ap, ◌∙◌, arith}
use Rattle.layout.proofs.Titles.{filled_up}
use Rattle.layout.proofs.name.fill_up.Goals as goal

pub returns : goal.returns
returns c =
    let text = c.args.text.now in
    let long : length text - 0 ≡ length text = omega arith in
    ap (λ part. part ++ drop (length text - 0) (replicate 14 0)) c.copy_from_slice.ensures.after
    ∙ ap (λ n. text ++ drop n (replicate 14 0)) long ∙ filled_up text c.requires.few
