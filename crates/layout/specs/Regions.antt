-- What each block of a card is for.
use Rattle.std.specs.Prelude.{ℕ, cond, ◌==◌, nat_lt}
use Rattle.layout.specs.declared.region.Region.{Region}
use Rattle.layout.specs.declared.region.Region.TheVariants.{Head, InodeMap, BlockMap, Inodes, Directory, Data, Outside}
use Rattle.layout.specs.declared.geometry.Shape.{Shape}
use Rattle.layout.specs.Shapes.{first_directory, first_data}

-- the region that block b lies in
abbrev pub region : Shape → ℕ → Region
region g b =
    cond (b == 0) Head
    (cond (b == 1) InodeMap
    (cond (b == 2) BlockMap
    (cond (nat_lt b (first_directory g)) Inodes
    (cond (nat_lt b (first_data g)) Directory
    (cond (nat_lt b g.blocks) Data Outside)))))
