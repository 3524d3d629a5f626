use Rattle.jfr_cli.proofs.status.write_ending.Goals as goal

pub returns-in-Refused : goal.returns-in-Refused
returns-in-Refused g c = rw c.in-Refused.is (c.write_made_line.ensures _ c.refusal_text.ensures)

pub returns-in-ReadFault : goal.returns-in-ReadFault
returns-in-ReadFault g c = rw c.in-ReadFault.is c.write_status_line.ensures

pub returns-in-WriteFault : goal.returns-in-WriteFault
returns-in-WriteFault g c = rw c.in-WriteFault.is c.write_status_line-in-WriteFault.ensures

pub returns-in-TooManyParts : goal.returns-in-TooManyParts
returns-in-TooManyParts g c = rw c.in-TooManyParts.is c.write_status_line-in-TooManyParts.ensures

pub returns-in-Memory : goal.returns-in-Memory
returns-in-Memory g c = rw c.in-Memory.is c.write_status_line-in-Memory.ensures

pub returns-in-MaskTooLong : goal.returns-in-MaskTooLong
returns-in-MaskTooLong g c = rw c.in-MaskTooLong.is (c.write_made_line-in-MaskTooLong.ensures _ c.long_text.ensures)
