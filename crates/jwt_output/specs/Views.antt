-- This crate's own values as contracts see them.

use Rattle.jwt_output.specs.declared.mac.Digest.{Digest as CodeDigest}
use Rattle.jwt_output.specs.declared.reply.Reply.{Reply}
use Rattle.jwt_output.specs.Mac.{Digest}
use Rattle.jwt_output.specs.Printed.{Answer}

abbrev pub digest_view : CodeDigest → Digest
digest_view d = record { tag = d.tag; equal = d.equal }

abbrev pub reply_view : Reply → Answer
reply_view r = record { text = r.text.items; status = r.status }
