-- The worked examples, by computing.
use Rattle.std.proofs.Common.{refl}
use Rattle.finite.specs.Finite.{every, exists, count, lowest, table}
use Rattle.blocks.specs.Bytes.{joined, whole}
use Rattle.blocks.specs.Bits.{packed}
use Rattle.blocks.specs.Images.{image_blocks, with_blocks}
use Rattle.layout.specs.Names.{padded}
use Rattle.rules.specs.Standing.{under_way, newest, firm, stands}
use Rattle.rules.specs.References.{view_leads, stands_at, held, anchored, vacant, shown_at}
use Rattle.rules.specs.Kinds.{reach, claimed, in_use, pointer_ready, entry_goes, entry_ready}
use Rattle.rules.specs.Images.{inode_marked, block_marked, image_pointers, image_file, still_named, image_absent, image_inode, image_slot, image_data, image_in, image, unfilled, due}
use Rattle.rules.specs.Free.{free_inode, free_block, find, name_stands}
use Rattle.rules.specs.Changes.{without, landing, created, kept_if_named, unnamed, changed, after}
use Rattle.rules.specs.Calls.{check_new, check_named, make, check_names, link, rename, remove, put_part, put, takes, trim, part_bytes, get, look, write, collect}
use Rattle.rules.specs.Acts.{act}
use Rattle.rules.specs.Attach.{file_on, bytes_on, view_on, started, landings, attach, outstanding, end}
use Rattle.rules.specs.Example.{WorkedExample, played}
use Rattle.rules.specs.Busy.{BusyExample, reached, left, holding, unsent, spoilt}

pub worked_example : WorkedExample
unfolding every exists count lowest table joined whole packed image_blocks with_blocks padded under_way newest firm stands view_leads stands_at held anchored vacant shown_at reach claimed in_use pointer_ready entry_goes entry_ready inode_marked block_marked image_pointers image_file still_named image_absent image_inode image_slot image_data image_in image unfilled due free_inode free_block find name_stands without landing created kept_if_named unnamed changed after check_new check_named make check_names link rename remove put_part put write collect act file_on bytes_on view_on started landings attach played
worked_example = record { attaches = refl; holds = refl }

pub busy_example : BusyExample
unfolding every exists count lowest table joined whole packed image_blocks with_blocks padded under_way newest firm stands view_leads stands_at held anchored vacant shown_at reach claimed in_use pointer_ready entry_goes entry_ready inode_marked block_marked image_pointers image_file still_named image_absent image_inode image_slot image_data image_in image unfilled due free_inode free_block find name_stands without landing created kept_if_named unnamed changed after check_new check_named make check_names link rename remove put_part put takes trim write collect act file_on bytes_on view_on started landings attach played reached left holding unsent spoilt get part_bytes look outstanding end
busy_example = record {
  holds = refl;
  attaches = refl;
  finds = refl;
  lands = refl;
  finds_name = refl;
  attaches_again = refl;
  finds_part = refl;
  stays = refl;
  refuses = refl;
  gets = refl;
  gets_zeros = refl;
  gets_unsent = refl;
  gets_last = refl;
  gets_no_part = refl;
  gets_no_buffer = refl;
  looks = refl;
  looks_past = refl;
  counts = refl;
  counts_waiting = refl;
  counts_name = refl;
  gives_back = refl;
  gives_back_unattached = refl;
  leaves = refl;
  leaves_unattached = refl;
  leaves_buffer = refl;
  fills_buffer = refl;
  takes = refl;
}
