use Rattle.store.proofs.Groups.{pair_is}
use Rattle.store.proofs.header.codec.pack_pair.Goals as goal

pub returns : goal.returns
returns c = pair_is c.args.pair.now _ _ c.told-pair c.requires c.to_be_bytes.ensures c.to_be_bytes-2.ensures
