-- Refusals (document 01, "Numbers given back"): "a number and a place, and nothing else".
-- In this order: the reasons of the table, in its order, and those that document 02 adds; the number of each.
use Rattle.std.specs.Prelude.{ℕ}
use Rattle.protocol.specs.declared.Refusal.{Refusal}
use Rattle.protocol.specs.declared.Reason.{Reason}
use Rattle.protocol.specs.declared.Reason.TheVariants.{TooShort, WrongLength, Unknown, WrongFragment, TooLong, OffsetInFixedPart, PastEnd, WrongSize, OutsideTable, Contradiction, OutputTooSmall, WrongVersion, AboveHost, VersionNotListed, WrongCount, WrongTransferSize, MisalignedOffset, OffsetWithZeroSize, BadLine}

abbrev pub refusal : Reason → ℕ → Refusal
refusal n p = record { reason = n; place = p }

-- fewer bytes than the header or fixed part
abbrev pub too_short : Reason
too_short = TooShort

-- a length disagrees
abbrev pub wrong_length : Reason
wrong_length = WrongLength

-- unknown message type, service or CID
abbrev pub unknown : Reason
unknown = Unknown

-- fragment total or number wrong
abbrev pub wrong_fragment : Reason
wrong_fragment = WrongFragment

-- over 4,096 information bytes
abbrev pub too_long : Reason
too_long = TooLong

-- an offset inside the fixed part, and only that (02, order 1; in 01 also 17 and 18)
abbrev pub offset_in_fixed_part : Reason
offset_in_fixed_part = OffsetInFixedPart

-- offset + size beyond the payload, as whole numbers
abbrev pub past_end : Reason
past_end = PastEnd

-- size over its limit, odd for text, or unfit for its list
abbrev pub wrong_size : Reason
wrong_size = WrongSize

-- number or bit outside its table
abbrev pub outside_table : Reason
outside_table = OutsideTable

-- fields contradict
abbrev pub contradiction : Reason
contradiction = Contradiction

-- output too small
abbrev pub output_too_small : Reason
output_too_small = OutputTooSmall

-- MBIM number not 0100h, extension not 0100h or 0200h, or advertised above native
abbrev pub wrong_version : Reason
wrong_version = WrongVersion

-- announced version above the host's
abbrev pub above_host : Reason
above_host = AboveHost

-- 2.00 advertised, VERSION not listed
abbrev pub version_not_listed : Reason
version_not_listed = VersionNotListed

-- list count over its limit
abbrev pub wrong_count : Reason
wrong_count = WrongCount

-- transfer size outside 64 to 4,096
abbrev pub wrong_transfer_size : Reason
wrong_transfer_size = WrongTransferSize

-- ---- added by document 02

-- order 1: an offset that is not a multiple of 4
abbrev pub misaligned_offset : Reason
misaligned_offset = MisalignedOffset

-- order 1: an offset other than 0 beside size 0
abbrev pub offset_with_zero_size : Reason
offset_with_zero_size = OffsetWithZeroSize

-- order 5: a bad line; its place is "the first column, from 0, where no good line can go on or end"
abbrev pub bad_line : Reason
bad_line = BadLine

-- ---- the number of each, as it is given to a caller in C

unfoldable pub number_of : Reason → ℕ
number_of TooShort = 1
number_of WrongLength = 2
number_of Unknown = 3
number_of WrongFragment = 4
number_of TooLong = 5
number_of OffsetInFixedPart = 6
number_of PastEnd = 7
number_of WrongSize = 8
number_of OutsideTable = 9
number_of Contradiction = 10
number_of OutputTooSmall = 11
number_of WrongVersion = 12
number_of AboveHost = 13
number_of VersionNotListed = 14
number_of WrongCount = 15
number_of WrongTransferSize = 16
number_of MisalignedOffset = 17
number_of OffsetWithZeroSize = 18
number_of BadLine = 19
