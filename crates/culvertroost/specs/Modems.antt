-- What a modem's end in lent memory answers, as plain members.
use Rattle.lent_modem.specs.declared.ModemReply.{ModemReply}
use Rattle.c_structs.specs.Ends.{modem_info}
use Rattle.c_structs.specs.declared.ends.ModemInfo.{ModemInfo}

abbrev pub reply_info : ModemReply → ModemInfo
reply_info r = modem_info r.answer r.stage
