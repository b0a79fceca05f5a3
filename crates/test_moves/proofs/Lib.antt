mod Edited
