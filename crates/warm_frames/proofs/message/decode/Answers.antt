use Rattle.std.proofs.Common.{arith}
use Rattle.warm_frames.specs.Reading.{reserved_by}
use Rattle.warm_frames.proofs.DecodeLemmas.{decoded_encodes, encoded_decodes}
use Rattle.warm_frames.proofs.message.decode.Goals as goal

pub returns-clause-found : goal.returns-clause-found
returns-clause-found c = decoded_encodes c.args.bytes.now c.message_in.result (reserved_by c.args.bytes.now) (λ i. omega (arith, c.type_inv.bytes i)) c.message_in.ensures

pub returns-clause-only : goal.returns-clause-only
returns-clause-only c = encoded_decodes c.args.bytes.now c.message_in.result (reserved_by c.args.bytes.now) c.message_in.ensures
