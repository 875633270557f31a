use Rattle.std.proofs.Common.{rules, sym, arith}
use Rattle.disks.proofs.Blocks.{blocks_apart, copied_in, not_below}
use Rattle.disks.proofs.block.put_block.Goals as goal

pub returns-then-block-count_blocks : goal.returns-then-block-count_blocks
returns-then-block-count_blocks c = record {
  after = copied_in c.args.bytes.now c.args.content.now c.copy_from_slice.new.self _ c.args.block (search rules) c.copy_from_slice.ensures.after (omega arith);
  apart = blocks_apart;
}

pub returns-else-block-count_blocks : goal.returns-else-block-count_blocks
returns-else-block-count_blocks c = record {
  after = sym (not_below c.args.block _ _ c.args.bytes.now (omega arith));
  apart = blocks_apart;
}
