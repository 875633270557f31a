-- What recovery answers.
use Rattle.store.specs.Layout.{HeaderValues}
use Rattle.store.specs.Headers.{header_values}
use Rattle.store.specs.declared.header.Header.{Header}
use Rattle.std.specs.Prelude.{Ok, Err, Result}
use Rattle.transactions.specs.StoreAnswers.{StoreAnswer, store_refusal_values}
use Rattle.transactions.specs.declared.store_refusal.StoreRefusal.{StoreRefusal}

abbrev pub recovered : Result Header StoreRefusal → StoreAnswer HeaderValues
recovered (Ok h) = Ok (header_values h)
recovered (Err e) = Err (store_refusal_values e)
