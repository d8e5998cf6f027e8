use Rattle.std.proofs.Common.{◌≡◌, ◌+◌, ◌*◌, ◌≤◌, length, sym, ap, ◌∙◌, arith}
use Rattle.blocks.specs.Images.{with_block}
use Rattle.layout.specs.Fresh.{fresh_block}
use Rattle.blocks.proofs.Images.{lent, blocks_none, length-blocks, blocks_more}
use Rattle.layout.proofs.Fresh.{fresh_whole}
use Rattle.layout.proofs.empty.prepare.Goals as goal

pub loop-b-init : goal.loop-b-init
loop-b-init c = sym (blocks_none (fresh_block c.in_ok-geometry.geometry.shape) c.args.image.now)

pub loop-b-preserved : goal.loop-b-preserved
loop-b-preserved c =
    let geometry = c.in_ok-geometry.geometry in
    let g = geometry.shape in
    let b = c.loop-b.b in
    let image = c.loop-b.image in
    let block = c.fresh_block.result in
    let long : length image ≡ 64 * g.blocks = ap length c.loop-b.invariant ∙ length-blocks (fresh_block g) c.args.image.now b ∙ c.if-image-geometry.false in
    let fits : 64 * b + 64 ≤ length image = omega (arith, c.loop-b-test.true, c.first_data-b-end.ensures, geometry.good.room) in
    let whole : length block ≡ 64 = ap length c.fresh_block.ensures ∙ fresh_whole g b in
    lent image block b fits whole c.write_block.new.part c.write_block.ensures ∙ ap (with_block image b) c.fresh_block.ensures
    ∙ ap (λ x. with_block x b (fresh_block g b)) c.loop-b.invariant ∙ blocks_more (fresh_block g) c.args.image.now b
