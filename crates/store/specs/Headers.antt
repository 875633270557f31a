-- What a header record says.
use Rattle.store.specs.Layout.{HeaderValues}
use Rattle.store.specs.LogValues.{log_of}
use Rattle.store.specs.declared.header.Header.{Header}

abbrev pub header_values : Header → HeaderValues
header_values h = record { n = h.n; log = log_of h.log }
