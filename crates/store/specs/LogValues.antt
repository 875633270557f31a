-- What a log says.
use Rattle.std.specs.Prelude.{ℕ, List, take}
use Rattle.store.specs.declared.header.log.Log.{Log}

-- the fields in use
abbrev pub log_of : Log → List ℕ
log_of l = take l.count l.fields
