use Rattle.std.proofs.Common.{sym}
use Rattle.jwt_jws.proofs.Texts.{texts_read, texts_none, texts_sized}
use Rattle.jwt_jws.proofs.compact.compact_texts.Goals as goal

pub returns-in-Ok-clause-texts : goal.returns-in-Ok-clause-texts
returns-in-Ok-clause-texts c =
    let texts = c.in-Ok.texts in
    sym (texts_read c.args.octets.now texts.protected.now texts.payload.now texts.signature.now c.in-Ok.ensures.value)

pub returns-in-Ok-clause-sized : goal.returns-in-Ok-clause-sized
returns-in-Ok-clause-sized c = texts_sized c.args.octets.now _ (sym (returns-in-Ok-clause-texts c))

pub returns-in-Err-clause-texts : goal.returns-in-Err-clause-texts
returns-in-Err-clause-texts c = sym (texts_none c.args.octets.now _ (c.in-Err.ensures.value c.in-Err.ensures.memory))
