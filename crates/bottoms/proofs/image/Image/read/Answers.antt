use Rattle.std.proofs.Common.{◌<◌, [], Ok, sym, ap, ◌∙◌, arith}
use Rattle.std.proofs.lemmas.Bool.{cond_below}
use Rattle.blocks.specs.Images.{image_block}
use Rattle.blocks.proofs.Images.{image_block_at}
use Rattle.bottoms.specs.Used.{used}
use Rattle.bottoms.proofs.image.Image.read.Goals as goal

pub returns : goal.returns
returns c =
    let image = c.args.self.now.0.items in
    let b = c.args.block in
    let below : b < used image = omega arith in
    let block = c.get_block.ensures ∙ ap (λ l. image_block l b) c.deref.ensures.value ∙ sym (image_block_at (used image) image b [] below) in
    ap Ok block ∙ cond_below b (used image) _ _ below
