mod Told
mod LastLife
mod Last
mod Made
mod Blank
mod Yes
mod Line
mod Telling
