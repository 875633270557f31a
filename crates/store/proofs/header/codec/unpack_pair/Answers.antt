use Rattle.store.proofs.Groups.{triple_is}
use Rattle.store.proofs.header.codec.unpack_pair.Goals as goal

pub returns : goal.returns
returns c = triple_is c.args.triple.now _ _ c.told-triple c.fits-triple c.from_be_bytes.ensures c.from_be_bytes-2.ensures
