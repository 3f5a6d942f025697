-- What a call of the reader answers, of the whole reply: all of it but the image.
use Rattle.std.specs.Prelude.{ℕ}
use Rattle.notation.specs.Reading.{Reading}
use Rattle.read.specs.declared.reply.ReadReply.{ReadReply}

unfoldable pub reply_of : Reading → ReadReply
reply_of r = record { number = r.number; place = r.place; made = r.made }

abbrev pub refused_reply : ℕ → ℕ → ReadReply
refused_reply n k = record { number = n; place = k; made = 0 }

abbrev pub made_reply : ℕ → ReadReply
made_reply n = record { number = 0; place = 0; made = n }
