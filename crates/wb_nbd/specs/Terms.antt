-- The bytes by which a server answers options.
use Rattle.std.specs.Prelude.{ℕ, List, [], ◌++◌, replicate, Bool, true, false}
use Rattle.byteorder.specs.Endian.{big_bytes}
use Rattle.wb_nbd.specs.declared.option.Wish.{Wish}
use Rattle.wb_nbd.specs.declared.option.Wish.TheVariants.{Start, StartLong, Abort, List as ListWish, Info, Go, Refuse}
use Rattle.wb_nbd.specs.declared.option.OptionError.{OptionError}
use Rattle.wb_nbd.specs.declared.option.OptionError.TheVariants.{Unsupported, Invalid, TooBig}
use Rattle.wb_nbd.specs.declared.terms.Terms.{Terms}
use Rattle.wb_nbd.specs.Options.{option_magic}

-- the letters NBDMAGIC
abbrev pub greeting_magic : ℕ
greeting_magic = 5639144782019643715

-- 0x3e889045565a9
abbrev pub option_reply_magic : ℕ
option_reply_magic = 1100100111001001

-- what a connection begins with; the flags offer the fixed handshake, and to leave zeros out
abbrev pub greeting : List ℕ
greeting = (big_bytes 8 greeting_magic ++ big_bytes 8 option_magic) ++ big_bytes 2 3

-- the first bytes of an answer to an option of this number, of this kind, that so many follow
abbrev pub reply_start : ℕ → ℕ → ℕ → List ℕ
reply_start number kind size = ((big_bytes 8 option_reply_magic ++ big_bytes 4 number) ++ big_bytes 4 kind) ++ big_bytes 4 size

-- an answer that is nothing but its kind
abbrev pub plain_reply : ℕ → ℕ → List ℕ
plain_reply number kind = reply_start number kind 0

-- the one export, by its empty name
abbrev pub export_entry : ℕ → List ℕ
export_entry number = reply_start number 2 4 ++ big_bytes 4 0

-- the size of the export in bytes, and the flags: there are flags, flush is served, and so are durable writes and zeros
abbrev pub export_terms : Terms → List ℕ
export_terms terms = big_bytes 8 terms.size ++ big_bytes 2 77

abbrev pub export_info : Terms → ℕ → List ℕ
export_info terms number = (reply_start number 3 12 ++ big_bytes 2 0) ++ export_terms terms

-- the least size of a request in bytes, the preferred one and the greatest
abbrev pub block_info : Terms → ℕ → List ℕ
block_info terms number = (((reply_start number 3 14 ++ big_bytes 2 3) ++ big_bytes 4 512) ++ big_bytes 4 terms.preferred) ++ big_bytes 4 33554432

abbrev pub error_kind : OptionError → ℕ
error_kind Unsupported = 2147483649
error_kind Invalid = 2147483651
error_kind TooBig = 2147483657

-- 124 zeros, unless they are to be left out
abbrev pub padding_zeros : Bool → List ℕ
padding_zeros true = []
padding_zeros false = replicate 124 0

-- what an option is answered; the flag says that zeros are left out
abbrev pub answer_to : Terms → Bool → ℕ → Wish → List ℕ
answer_to terms brief number Start = export_terms terms ++ padding_zeros brief
answer_to terms brief number StartLong = []
answer_to terms brief number Abort = plain_reply number 1
answer_to terms brief number ListWish = export_entry number ++ plain_reply number 1
answer_to terms brief number Info = (export_info terms number ++ block_info terms number) ++ plain_reply number 1
answer_to terms brief number Go = (export_info terms number ++ block_info terms number) ++ plain_reply number 1
answer_to terms brief number (Refuse error) = plain_reply number (error_kind error)
