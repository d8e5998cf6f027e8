use Rattle.std.proofs.Common.{◌≡◌, [], ◌∷◌, arith}
use Rattle.blocks.specs.Bytes.{low, high}
use Rattle.layout.proofs.Coded.{is_file_of}
use Rattle.layout.proofs.inode.QuarterFromRefInode.from.Goals as goal

pub returns : goal.returns
returns c =
    let n = c.args.inode.now.links in
    let links_low : c.low.result ≡ low n = omega (arith, c.low.ensures) in
    let links_high : c.high.result ≡ high n = omega (arith, c.high.ensures) in
    is_file_of n c.args.inode.now.pointers _ (λ i. 1 ∷ 0 ∷ links_low i ∷ links_high i ∷ c.low-2.ensures i ∷ c.high-2.ensures i ∷ c.low-3.ensures i ∷ c.high-3.ensures i
    ∷ c.low-4.ensures i ∷ c.high-4.ensures i ∷ c.low-5.ensures i ∷ c.high-5.ensures i ∷ c.low-6.ensures i ∷ c.high-6.ensures i
    ∷ c.low-7.ensures i ∷ c.high-7.ensures i ∷ [])
